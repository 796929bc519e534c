-- Fill: what is left is placed by falling priority, each task where it finishes first.
use Rattle.std.specs.Prelude.{ℕ, not, List, [], ◌∷◌, filter, filter_map, ok_or, Some, None, Ok, Option, Result, nat_lt, if◌then◌else◌}
use Rattle.std.specs.List.{range_with_len}
use Rattle.std.specs.Result.{result_ok}
use Rattle.model.specs.Data.{JobData, NetData, task_count, station_count}
use Rattle.model.specs.Plans.{PlanData, plan_length}
use Rattle.model.specs.declared.refusal.Refusal.{Refusal}
use Rattle.model.specs.declared.refusal.Refusal.TheVariants.{EveryMachineRefuses}
use Rattle.routes.specs.Legs.{Ways}
use Rattle.planner.specs.Chains.{and_then}
use Rattle.planner.specs.Drawing.{guarded}
use Rattle.planner.specs.Edges.{is_placed}
use Rattle.planner.specs.Levels.{bottom_level}
use Rattle.planner.specs.Outcomes.{DrawState, Outcome}
use Rattle.planner.specs.Placing.{placed}

-- task t put among tasks that stand by falling priority: before the first whose priority is not greater
abbrev pub put_in : (ℕ → ℕ) → ℕ → List ℕ → List ℕ
put_in priority t [] = t ∷ []
put_in priority t (u ∷ us) = if nat_lt (priority t) (priority u) then u ∷ put_in priority t us else t ∷ u ∷ us

-- tasks by falling priority; equals stay as they stand
abbrev pub by_priority : (ℕ → ℕ) → List ℕ → List ℕ
by_priority priority [] = []
by_priority priority (t ∷ ts) = put_in priority t (by_priority priority ts)

-- the tasks that are not placed, by rising number
abbrev pub unplaced_tasks : JobData → PlanData → List ℕ
unplaced_tasks J P = filter (λ t. not (is_placed P t)) (range_with_len 0 (task_count J))

-- of two finishes, each with its state, the earlier; the former where they are equal
abbrev pub earlier : ℕ × DrawState → Option (ℕ × DrawState) → ℕ × DrawState
earlier x None = x
earlier x (Some y) = if nat_lt y.0 x.0 then y else x

abbrev pub earliest_of : List (ℕ × DrawState) → Option (ℕ × DrawState)
earliest_of [] = None
earliest_of (x ∷ xs) = Some (earlier x (earliest_of xs))

-- the finish of task t on each machine that does not refuse it, by rising number, and the state then
abbrev pub finishes : JobData → NetData → Ways → DrawState → ℕ → List (ℕ × DrawState)
finishes J N ρ S t = filter_map (λ m. result_ok (placed J N ρ S t m)) (range_with_len 0 (station_count N))

-- task t placed where it finishes first, on the lowest machine among equals
abbrev pub placed_first : JobData → NetData → Ways → DrawState → ℕ → Result (ℕ × DrawState) Refusal
placed_first J N ρ S t = ok_or (earliest_of (finishes J N ρ S t)) (EveryMachineRefuses t)

-- some tasks, one after the other
unfoldable pub filled : JobData → NetData → Ways → List ℕ → DrawState → Result DrawState Refusal
filled J N ρ [] S = Ok S
filled J N ρ (t ∷ ts) S = and_then (placed_first J N ρ S t) (λ x. filled J N ρ ts x.1)

-- Fill by a priority places the tasks that are not placed, and gives the length of the plan.
abbrev pub fill_by : (ℕ → ℕ) → JobData → NetData → Ways → DrawState → Outcome ℕ DrawState
fill_by priority J N ρ S =
    guarded J N ρ S (
    and_then (filled J N ρ (by_priority priority (unplaced_tasks J S.plan)) S) (λ after.
    Ok (plan_length J N after.plan, after)))

-- Fill takes them by falling bottom level.
abbrev pub fill : JobData → NetData → Ways → DrawState → Outcome ℕ DrawState
fill J N ρ S = fill_by (bottom_level J) J N ρ S
