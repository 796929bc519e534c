-- When sheet, plan and timetable belong together, in words.
use Rattle.std.specs.Prelude.{◌≡◌, ℕ, ◌<◌, true, ◌↔◌, ◌≢◌, List, [], length, Some}
use Rattle.std.specs.List.{slice_get}
use Rattle.model.specs.Data.{JobData, NetData, task_count, is_machine}
use Rattle.model.specs.Plans.{PlanData, task_row, starts}
use Rattle.model.specs.declared.job.Edge.{Edge}
use Rattle.model.specs.declared.plan.Placement.{Placement}
use Rattle.routes.specs.Legs.{Ways, way}
use Rattle.routes.specs.declared.hop.Hop.{Hop}
use Rattle.planner.specs.Bookings.{plan_bookings}
use Rattle.planner.specs.Order.{in_order}
use Rattle.planner.specs.Outcomes.{DrawState}

-- task t is placed somewhere
abbrev pub IsPlaced : PlanData → ℕ → Type 0
IsPlaced P t = (p : Placement) × (task_row P t ≡ Some p)

-- task t is one of the steps
abbrev pub IsStep : PlanData → ℕ → Type 0
IsStep P t = (k : ℕ) × (slice_get P.steps k ≡ Some t)

-- the edge has a route or needs none, and as many starts as hops
abbrev pub IsRouted : Ways → PlanData → ℕ → Edge → Type 0
IsRouted ρ P i e = (hops : List Hop) × (way ρ P e ≡ Some hops) × (length (starts P i) ≡ length hops)

pub record InOrder (J : JobData) (N : NetData) (ρ : Ways) (S : DrawState) : Type 0 where
  pub counted : S.count ≡ length S.plan.steps
  -- the steps are the placed tasks, each once
  pub step_placed : (t : ℕ) → IsStep S.plan t → IsPlaced S.plan t
  pub step_once : (j k t : ℕ) → slice_get S.plan.steps j ≡ Some t → slice_get S.plan.steps k ≡ Some t → j ≡ k
  pub placed_step : (t : ℕ) → IsPlaced S.plan t → IsStep S.plan t
  pub goal_step : (i : ℕ) (e : Edge) → slice_get J.edges i ≡ Some e → starts S.plan i ≢ [] → IsStep S.plan e.to
  -- rule A
  pub task_known : (t : ℕ) → IsPlaced S.plan t → t < task_count J
  pub edge_known : (i : ℕ) → starts S.plan i ≢ [] → i < length J.edges
  pub on_machine : (t : ℕ) (p : Placement) → task_row S.plan t ≡ Some p → is_machine N p.station ≡ true
  -- rule B
  pub predecessor_placed : (i : ℕ) (e : Edge) → slice_get J.edges i ≡ Some e → IsPlaced S.plan e.to → IsPlaced S.plan e.from
  -- rule C
  pub routed : (i : ℕ) (e : Edge) → slice_get J.edges i ≡ Some e → IsRouted ρ S.plan i e
  pub booked : S.table.bookings ≡ plan_bookings J N ρ S.plan

-- the test that each call makes passes exactly if it is so
abbrev pub TestedInWords : Type 0
TestedInWords = (J : JobData) (N : NetData) (ρ : Ways) (S : DrawState) → (in_order J N ρ S ≡ true) ↔ InOrder J N ρ S
