-- Chains of the edges into each task. This file does not name the struct that keeps them.
use Rattle.std.specs.Prelude.{◌≡◌, ℕ, ◌+◌, List, [], ◌∷◌, drop, Some, None, Option, ◌==◌, if◌then◌else◌, slice_index_or}
use Rattle.std.specs.List.{slice_get}
use Rattle.model.specs.declared.job.Edge.{Edge}

-- the lowest edge into task t, of edges that are numbered from i on
abbrev pub edge_into : ℕ → ℕ → List Edge → Option ℕ
edge_into t i [] = None
edge_into t i (e ∷ es) = if e.to == t then Some i else edge_into t (i + 1) es

-- for each task the lowest edge into it, and for each edge the next one into its goal
pub record Chained (edges : List Edge) (firsts nexts : List (Option ℕ)) : Type 0 where
  pub first : (t : ℕ) → slice_index_or firsts t None ≡ edge_into t 0 edges
  pub next : (i : ℕ) (e : Edge) → slice_get edges i ≡ Some e → slice_index_or nexts i None ≡ edge_into e.to (i + 1) (drop (i + 1) edges)
