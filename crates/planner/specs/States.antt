-- The state of drawing that a sheet's count, a plan and a timetable make.
use Rattle.std.specs.Prelude.{◌≡◌, ℕ, length, true}
use Rattle.model.specs.Data.{JobData, NetData}
use Rattle.model.specs.JobLimits.{JobLimits}
use Rattle.model.specs.NetworkLimits.{NetworkLimits}
use Rattle.model.specs.Plans.{PlanData, plan_of}
use Rattle.model.specs.declared.plan.Plan.{Plan}
use Rattle.routes.specs.Laws.{RouteLaws}
use Rattle.routes.specs.Legs.{Ways}
use Rattle.timetable.specs.Tables.{Table}
use Rattle.planner.specs.Order.{in_order}
use Rattle.planner.specs.Outcomes.{DrawState}

-- count is what the sheet counts
abbrev pub state : ℕ → Plan → Table → DrawState
state count plan T = record { count = count; plan = plan_of plan; table = T }

-- a plan has all its rows
pub record HasAllRows (P : PlanData) : Type 0 where
  pub task_rows : length P.tasks ≡ 128
  pub transfer_rows : length P.transfers ≡ 224

-- job, network and routes keep their laws
pub record Given (J : JobData) (N : NetData) (ρ : Ways) : Type 0 where
  pub job : JobLimits J.works J.edges
  pub network : NetworkLimits N.stations N.links
  pub routes : RouteLaws N ρ

-- the plan has all its rows, and the state is in order
pub record Ordered (J : JobData) (N : NetData) (ρ : Ways) (S : DrawState) : Type 0 where
  pub rows : HasAllRows S.plan
  pub tested : in_order J N ρ S ≡ true
