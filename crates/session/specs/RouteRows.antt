-- The table of routes that the lines of a setting write.
use Rattle.std.specs.Prelude.{◌≡◌, ℕ, ◌≤◌, ◌+◌, ◌*◌, if◌then◌else◌, List, [], map, Some, None, Option, ◌==◌, slice_index_or}
use Rattle.std.specs.List.{flat_map, range_with_len}
use Rattle.model.specs.Refusals.{or_else}
use Rattle.routes.specs.declared.hop.Hop.{Hop}

-- the row of stations s and t: the hops written, or else the empty route from a station to itself and none to another
abbrev pub row_between : List (Option (List Hop)) → ℕ → ℕ → Option (List Hop)
row_between written s t = or_else (slice_index_or written (16 * s + t) None) (if s == t then Some [] else None)

-- the row of each pair of n stations, by rising origin, then goal
abbrev pub table_rows : ℕ → List (Option (List Hop)) → List (Option (List Hop))
table_rows n written = flat_map (λ s. map (row_between written s) (range_with_len 0 n)) (range_with_len 0 n)

-- from place n on, the rows ys are those of xs
pub record SameFrom (n : ℕ) (xs ys : List (Option (List Hop))) : Type 0 where
  pub same : (k : ℕ) → n ≤ k → slice_index_or ys k None ≡ slice_index_or xs k None
