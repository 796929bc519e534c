-- The edges into and out of a task, and what a plan says of their origins.
use Rattle.std.specs.Prelude.{ℕ, Bool, List, filter, is_some, Some, Option, ◌==◌}
use Rattle.std.specs.List.{enumerate_from}
use Rattle.std.specs.Option.{option_map_or}
use Rattle.model.specs.Data.{JobData, NetData}
use Rattle.model.specs.Plans.{PlanData, task_row, finish}
use Rattle.model.specs.declared.job.Edge.{Edge}
use Rattle.routes.specs.Legs.{Ways, way_between}
use Rattle.routes.specs.declared.hop.Hop.{Hop}

-- the edges into task t with their numbers, by rising number
abbrev pub incoming : JobData → ℕ → List (ℕ × Edge)
incoming J t = filter (λ (i, e). e.to == t) (enumerate_from 0 J.edges)

-- the edges out of task t
abbrev pub outgoing : List Edge → ℕ → List Edge
outgoing edges t = filter (λ e. e.from == t) edges

abbrev pub is_placed : PlanData → ℕ → Bool
is_placed P t = is_some (task_row P t)

-- the finish of a placed task; 0 of another
abbrev pub finish_of : JobData → NetData → PlanData → ℕ → ℕ
finish_of J N P t = option_map_or (finish J N t) (task_row P t) 0

-- the hops of an edge whose goal is to be placed on machine m: none where its origin is on m too
abbrev pub way_to : Ways → PlanData → ℕ → Edge → Option (List Hop)
way_to ρ P m e = way_between ρ (task_row P e.from) (Some (record { station = m; start = 0 }))
