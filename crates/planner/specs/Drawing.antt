-- Drawing on a sheet: what each call answers, and which state it leaves.
use Rattle.std.specs.Prelude.{ℕ, ◌-◌, not, [], fold, length, take, Some, None, Ok, Err, Option, Result, if◌then◌else◌}
use Rattle.std.specs.Bool.{then_some}
use Rattle.model.specs.Data.{JobData, NetData}
use Rattle.model.specs.Plans.{PlanData, blank_plan, last_step, with_task, with_starts, without_last_step}
use Rattle.model.specs.declared.refusal.Refusal.{Refusal}
use Rattle.model.specs.declared.refusal.Refusal.TheVariants.{NothingToTakeBack, NotInOrder}
use Rattle.routes.specs.Legs.{Ways}
use Rattle.timetable.specs.Tables.{Table}
use Rattle.planner.specs.Bookings.{step_bookings}
use Rattle.planner.specs.Chains.{unless}
use Rattle.planner.specs.Edges.{incoming}
use Rattle.planner.specs.Order.{in_order, is_empty}
use Rattle.planner.specs.Outcomes.{DrawState, Outcome, refused, outcome}
use Rattle.planner.specs.Placing.{placed}

-- a sheet with no steps, and a blank plan
abbrev pub new_state : Table → DrawState
new_state T = record { count = 0; plan = blank_plan; table = T }

-- New sheet blanks the plan and answers how many steps the sheet counts; a timetable with bookings is refused.
unfoldable pub new_sheet : PlanData → Table → Outcome ℕ PlanData
new_sheet P T = if is_empty T.bookings then record { answer = Ok 0; left = blank_plan } else refused P NotInOrder

-- Every call on a sheet asks first whether the state is in order.
abbrev pub guarded : {A : Type 0} → JobData → NetData → Ways → DrawState → Result (A × DrawState) Refusal → Outcome A DrawState
guarded J N ρ S call = outcome S (unless (then_some (not (in_order J N ρ S)) NotInOrder) call)

-- Place gives the finish.
abbrev pub place : JobData → NetData → Ways → DrawState → ℕ → ℕ → Outcome ℕ DrawState
place J N ρ S t m = guarded J N ρ S (placed J N ρ S t m)

-- the plan with no starts for the edges into task t
abbrev pub without_transfers : JobData → ℕ → PlanData → PlanData
without_transfers J t P = fold (λ Q (i, e). with_starts Q i []) P (incoming J t)

-- the table without its n newest bookings
abbrev pub without_newest : ℕ → Table → Table
without_newest n T = record T { bookings = take (length T.bookings - n) T.bookings }

-- the state without its last step, which is of task t
unfoldable pub without_step : JobData → NetData → Ways → DrawState → ℕ → DrawState
without_step J N ρ S t = record {
  count = S.count - 1;
  plan = without_last_step (with_task (without_transfers J t S.plan) t None);
  table = without_newest (length (step_bookings J N ρ S.plan t)) S.table;
}

abbrev pub undone : JobData → NetData → Ways → DrawState → Option ℕ → Result (ℕ × DrawState) Refusal
undone J N ρ S None = Err NothingToTakeBack
undone J N ρ S (Some t) = Ok (t, without_step J N ρ S t)

-- Take back removes the last step with all its bookings, and gives its task.
abbrev pub take_back : JobData → NetData → Ways → DrawState → Outcome ℕ DrawState
take_back J N ρ S = guarded J N ρ S (undone J N ρ S (last_step S.plan))
