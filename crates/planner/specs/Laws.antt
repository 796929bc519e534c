-- What holds of every call.
use Rattle.std.specs.Prelude.{◌≡◌, ℕ, false, Ok, Err}
use Rattle.model.specs.Data.{JobData, NetData}
use Rattle.model.specs.Plans.{PlanData}
use Rattle.model.specs.declared.booking.Booking.{Booking}
use Rattle.model.specs.declared.refusal.Refusal.{Refusal}
use Rattle.model.specs.declared.refusal.Refusal.TheVariants.{NotInOrder}
use Rattle.routes.specs.Legs.{Ways}
use Rattle.timetable.specs.Changes.{is_full, with_booking, booked_answer, booked}
use Rattle.timetable.specs.Tables.{Table, span}
use Rattle.planner.specs.Drawing.{new_sheet, place, take_back}
use Rattle.planner.specs.Filling.{fill_by}
use Rattle.planner.specs.Order.{in_order}
use Rattle.planner.specs.Outcomes.{DrawState, Outcome, refused}
use Rattle.planner.specs.Transfers.{ask}
use Rattle.planner.specs.Trials.{BeingDrawn, try_place, keep, strike}

-- where a question was answered and there is room, the timetable takes the booking, and so it is the newest then
pub record AnswerIsTaken (T : Table) (b : Booking) : Type 0 where
  pub answer : booked_answer T b ≡ Ok tt
  pub table : booked T b ≡ with_booking T b

abbrev pub AnsweredIsTaken : Type 0
AnsweredIsTaken = (T : Table) (r from d s : ℕ) → ask T r from d ≡ Ok s → is_full T ≡ false → AnswerIsTaken T (span r s d)

-- if the call is refused, it leaves S
abbrev pub LeavesIfRefused : {A S : Type 0} → Outcome A S → S → Type 0
LeavesIfRefused o S = (e : Refusal) → o.answer ≡ Err e → o.left ≡ S

-- a refused call changes nothing; a refused strike ends the trial as kept
pub record RefusedChangesNothing : Type 0 where
  pub by_new_sheet : (P : PlanData) (T : Table) → LeavesIfRefused (new_sheet P T) P
  pub by_place : (J : JobData) (N : NetData) (ρ : Ways) (S : DrawState) (t m : ℕ) → LeavesIfRefused (place J N ρ S t m) S
  pub by_take_back : (J : JobData) (N : NetData) (ρ : Ways) (S : DrawState) → LeavesIfRefused (take_back J N ρ S) S
  pub by_try : (J : JobData) (N : NetData) (ρ : Ways) (S : DrawState) (t m : ℕ) → LeavesIfRefused (try_place J N ρ S t m) (BeingDrawn S)
  pub by_strike : (J : JobData) (N : NetData) (ρ : Ways) (S : DrawState) → LeavesIfRefused (strike J N ρ S) (keep S)
  pub by_fill : (priority : ℕ → ℕ) (J : JobData) (N : NetData) (ρ : Ways) (S : DrawState) → LeavesIfRefused (fill_by priority J N ρ S) S

-- what is not in order is refused by every call, before anything else is looked at
pub record DisorderRefused (J : JobData) (N : NetData) (ρ : Ways) (S : DrawState) : Type 0 where
  pub by_place : (t m : ℕ) → place J N ρ S t m ≡ refused S NotInOrder
  pub by_take_back : take_back J N ρ S ≡ refused S NotInOrder
  pub by_try : (t m : ℕ) → try_place J N ρ S t m ≡ refused (BeingDrawn S) NotInOrder
  pub by_strike : strike J N ρ S ≡ refused (keep S) NotInOrder
  pub by_fill : (priority : ℕ → ℕ) → fill_by priority J N ρ S ≡ refused S NotInOrder

abbrev pub DisorderComesFirst : Type 0
DisorderComesFirst = (J : JobData) (N : NetData) (ρ : Ways) (S : DrawState) → in_order J N ρ S ≡ false → DisorderRefused J N ρ S
