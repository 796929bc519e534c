-- What any list of calls on a sheet answers, and what it makes of the sheet.
use Rattle.std.specs.Prelude.{List, [], ◌∷◌, map, Some, Ok, Err, Result}
use Rattle.model.specs.Data.{JobData, NetData}
use Rattle.model.specs.declared.refusal.Refusal.{Refusal}
use Rattle.routes.specs.Legs.{Ways}
use Rattle.planner.specs.Drawing.{place, take_back}
use Rattle.planner.specs.Filling.{fill}
use Rattle.planner.specs.Outcomes.{DrawState, Outcome}
use Rattle.planner.specs.Trials.{Sheet, BeingDrawn, BeingTried, try_place, keep, strike}
use Rattle.certificate.specs.declared.call.Call.{Call}
use Rattle.certificate.specs.declared.call.Call.TheVariants.{Place, Try, Keep, Strike, TakeBack, Fill}
use Rattle.certificate.specs.declared.call.Answer.{Answer}
use Rattle.certificate.specs.declared.call.Answer.TheVariants.{Finish, Kept, Task, Length, Refused, NotAllowed}
use Rattle.certificate.specs.declared.call.Asked.{Asked}

-- what a call answers, and the sheet that it leaves
pub record Reply : Type 0 where
  pub answer : Answer
  pub sheet : Sheet

-- a call that comes out so answers what it gives, under the name of its answer, or its refusal
abbrev pub answer_by : {A : Type 0} → (A → Answer) → Result A Refusal → Answer
answer_by give (Ok a) = give a
answer_by give (Err e) = Refused e

abbrev pub reply : {A S : Type 0} → (A → Answer) → (S → Sheet) → Outcome A S → Reply
reply give leave o = record { answer = answer_by give o.answer; sheet = leave o.left }

-- a call that the sheet does not allow
abbrev pub not_allowed : Sheet → Reply
not_allowed X = record { answer = NotAllowed; sheet = X }

module _ (J : JobData) (N : NetData) (ρ : Ways) where
  -- a sheet that is drawn on allows every call but keep and strike
  abbrev pub call_drawing : DrawState → Call → Reply
  call_drawing S (Place t m) = reply Finish BeingDrawn (place J N ρ S t m)
  call_drawing S (Try t m) = reply Finish (λ X. X) (try_place J N ρ S t m)
  call_drawing S TakeBack = reply Task BeingDrawn (take_back J N ρ S)
  call_drawing S Fill = reply Length BeingDrawn (fill J N ρ S)
  call_drawing S Keep = not_allowed (BeingDrawn S)
  call_drawing S Strike = not_allowed (BeingDrawn S)

  -- a sheet on trial allows only these two
  abbrev pub call_on_trial : DrawState → Call → Reply
  call_on_trial S Keep = record { answer = Kept; sheet = keep S }
  call_on_trial S Strike = reply Task (λ X. X) (strike J N ρ S)
  call_on_trial S (Place t m) = not_allowed (BeingTried S)
  call_on_trial S (Try t m) = not_allowed (BeingTried S)
  call_on_trial S TakeBack = not_allowed (BeingTried S)
  call_on_trial S Fill = not_allowed (BeingTried S)

  abbrev pub carry_out : Sheet → Call → Reply
  carry_out (BeingDrawn S) call = call_drawing S call
  carry_out (BeingTried S) call = call_on_trial S call

  -- the sheet after a list of calls: each gets it as the one before left it, refused or not
  unfoldable pub after : Sheet → List Call → Sheet
  after X [] = X
  after X (call ∷ calls) = after (carry_out X call).sheet calls

  -- each call with its answer
  unfoldable pub told : Sheet → List Asked → List Asked
  told X [] = []
  told X (asked ∷ rest) =
      let r = carry_out X asked.call in
      record { call = asked.call; answer = Some r.answer } ∷ told r.sheet rest

abbrev pub calls_of : List Asked → List Call
calls_of asked = map (λ a. a.call) asked
