-- A new sheet over a timetable with no bookings is given.
use Rattle.std.proofs.Common.{◌≡◌, [], Some, None, Ok, Err, Result, refl, ap, subst, ◌∙◌}
use Rattle.std.specs.Result.{IsOk, IfOk}
use Rattle.model.specs.Data.{JobData, NetData}
use Rattle.model.specs.Plans.{PlanData}
use Rattle.model.specs.Refusals.{refusal_of}
use Rattle.model.specs.declared.refusal.Refusal.{Refusal}
use Rattle.routes.specs.Legs.{Ways}
use Rattle.timetable.specs.Tables.{Table}
use Rattle.planner.specs.Drawing.{new_sheet}
use Rattle.planner.specs.Trials.{Sheet}
use Rattle.certificate.specs.Calls.{after}

not_refused : (P : PlanData) (T : Table) → T.bookings ≡ [] → refusal_of (new_sheet P T).answer ≡ None
unfolding new_sheet
not_refused P T none = ap (λ bs. refusal_of (new_sheet P (record T { bookings = bs })).answer) none

pub given : {A : Type 0} (r : Result A Refusal) (P : PlanData) (T : Table) → T.bookings ≡ [] → refusal_of r ≡ refusal_of (new_sheet P T).answer → IsOk r
given (Ok a) P T none is = refl
given (Err e) P T none is = let some : Some e ≡ None = is ∙ not_refused P T none in cc some

-- what holds of whatever was given, holds of this
pub of_given : {A E : Type 0} (r : Result A E) (a : A) (P : A → Type 0) → r ≡ Ok a → IfOk r P → P a
of_given r a P is h = subst (λ q. IfOk q P) is h

-- no calls change nothing
pub after_none : (J : JobData) (N : NetData) (ρ : Ways) (X : Sheet) → after J N ρ X [] ≡ X
unfolding after
after_none J N ρ X = refl
