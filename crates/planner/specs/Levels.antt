-- The bottom level of a task: the longest way from its begin to the end of the job, in work and volume.
use Rattle.std.specs.Prelude.{ℕ, ◌+◌, ◌-◌, max, List, [], ◌∷◌, map, fold, slice_index}
use Rattle.model.specs.Data.{JobData}
use Rattle.model.specs.declared.job.Edge.{Edge}
use Rattle.planner.specs.Edges.{outgoing}

-- the greatest of some numbers, or 0
abbrev pub greatest : List ℕ → ℕ
greatest ns = fold max 0 ns

-- the work of task t, and the greatest of volume plus bottom level over the edges out of it; first come the levels of the tasks after t
abbrev pub level_before : List ℕ → List Edge → ℕ → ℕ → ℕ
level_before levels edges t work = work + greatest (map (λ e. e.volume + slice_index levels (e.to - (t + 1))) (outgoing edges t))

abbrev pub with_level : List Edge → ℕ → ℕ → List ℕ → List ℕ
with_level edges t work levels = level_before levels edges t work ∷ levels

-- the bottom levels of task t and those after it, whose works are given
unfoldable pub levels_from : List Edge → ℕ → List ℕ → List ℕ
levels_from edges t [] = []
levels_from edges t (work ∷ works) = with_level edges t work (levels_from edges (t + 1) works)

abbrev pub bottom_levels : JobData → List ℕ
bottom_levels J = levels_from J.edges 0 J.works

abbrev pub bottom_level : JobData → ℕ → ℕ
bottom_level J t = slice_index (bottom_levels J) t
