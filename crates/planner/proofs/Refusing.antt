-- A refused call leaves what was there before, and what is not in order is refused.
use Rattle.std.proofs.Common.{◌≡◌, ℕ, Bool, true, false, not, Ok, Err, Result, is_ok, refl, ap, if◌then◌else◌}
use Rattle.std.specs.Bool.{then_some}
use Rattle.model.specs.Data.{JobData, NetData}
use Rattle.model.specs.Plans.{PlanData, blank_plan, last_step}
use Rattle.model.specs.declared.refusal.Refusal.{Refusal}
use Rattle.model.specs.declared.refusal.Refusal.TheVariants.{NotInOrder}
use Rattle.routes.specs.Legs.{Ways}
use Rattle.timetable.specs.Tables.{Table}
use Rattle.planner.specs.Chains.{unless}
use Rattle.planner.specs.Drawing.{new_sheet, guarded, undone}
use Rattle.planner.specs.Laws.{LeavesIfRefused, RefusedChangesNothing, DisorderComesFirst}
use Rattle.planner.specs.Order.{in_order, is_empty}
use Rattle.planner.specs.Outcomes.{DrawState, Outcome, refused, outcome}
use Rattle.planner.specs.Trials.{Sheet, BeingDrawn, BeingTried}

outcome_leaves : {A S : Type 0} (s : S) (r : Result (A × S) Refusal) → LeavesIfRefused (outcome s r) s
outcome_leaves s (Ok x) e h = cc h
outcome_leaves s (Err d) e h = refl

new_sheet_leaves : (P : PlanData) (T : Table) → LeavesIfRefused (new_sheet P T) P
unfolding new_sheet
new_sheet_leaves P T = go (is_empty T.bookings)
  where
    go : (b : Bool) → LeavesIfRefused {A = ℕ} (if b then record { answer = Ok 0; left = blank_plan } else refused P NotInOrder) P
    go true e h = cc h
    go false e h = refl

-- what try leaves of a place that comes out as o
abbrev tried : DrawState → Outcome ℕ DrawState → Outcome ℕ Sheet
tried S o = record { answer = o.answer; left = if is_ok o.answer then BeingTried o.left else BeingDrawn S }

tried_leaves : (S : DrawState) (r : Result (ℕ × DrawState) Refusal) → LeavesIfRefused (tried S (outcome S r)) (BeingDrawn S)
tried_leaves S (Ok x) e h = cc h
tried_leaves S (Err d) e h = refl

-- a call that the state's test goes before
abbrev tested : {A : Type 0} → JobData → NetData → Ways → DrawState → Result (A × DrawState) Refusal → Result (A × DrawState) Refusal
tested J N ρ S call = unless (then_some (not (in_order J N ρ S)) NotInOrder) call

pub refused_changes_nothing : RefusedChangesNothing
refused_changes_nothing = record {
  by_new_sheet = new_sheet_leaves;
  by_place = λ J N ρ S t m. outcome_leaves S _;
  by_take_back = λ J N ρ S. outcome_leaves S _;
  by_try = λ J N ρ S t m. tried_leaves S _;
  by_strike = λ J N ρ S e h. ap BeingDrawn (outcome_leaves S (tested J N ρ S (undone J N ρ S (last_step S.plan))) e h);
  by_fill = λ priority J N ρ S. outcome_leaves S _;
}

guarded_refuses : {A : Type 0} (J : JobData) (N : NetData) (ρ : Ways) (S : DrawState) (call : Result (A × DrawState) Refusal) → in_order J N ρ S ≡ false → guarded J N ρ S call ≡ refused S NotInOrder
guarded_refuses J N ρ S call off = ap (λ b. outcome S (unless (then_some (not b) NotInOrder) call)) off

pub disorder_comes_first : DisorderComesFirst
disorder_comes_first J N ρ S off = record {
  by_place = λ t m. guarded_refuses J N ρ S _ off;
  by_take_back = guarded_refuses J N ρ S _ off;
  by_try = λ t m. ap (tried S) (guarded_refuses J N ρ S _ off);
  by_strike = ap (λ o. record { answer = o.answer; left = BeingDrawn o.left }) (guarded_refuses J N ρ S (undone J N ρ S (last_step S.plan)) off);
  by_fill = λ priority. guarded_refuses J N ρ S _ off;
}
