-- A task that is placed and taken back again leaves the state as it was.
use Rattle.std.proofs.Common.{◌≡◌, ℕ, Some, None, Ok, Err, Result, ap, ◌∙◌}
use Rattle.std.specs.Result.{result_ok}
use Rattle.model.specs.Data.{JobData, NetData}
use Rattle.model.specs.Plans.{last_step}
use Rattle.model.specs.declared.refusal.Refusal.{Refusal}
use Rattle.routes.specs.Legs.{Ways}
use Rattle.planner.specs.Calls.{left_with}
use Rattle.planner.specs.Drawing.{undone}
use Rattle.planner.specs.Outcomes.{DrawState, outcome}
use Rattle.planner.specs.Placing.{placed}
use Rattle.planner.specs.States.{Given, Ordered}
use Rattle.planner.proofs.KeptOrder.{placing_keeps_order}
use Rattle.planner.proofs.PlaceUndone.{take_back_undoes_place}

-- what a call gave that was not refused
pub came : {A S : Type 0} (s u : S) (r : Result A Refusal) (p : Result (A × S) Refusal) → left_with r u ≡ outcome s p → (a : A) → result_ok r ≡ Some a → p ≡ Ok (a, u)
came s u (Ok b) (Ok (c, v)) h a is =
    let same_answer : Ok b ≡ Ok c = ap (λ o. o.answer) h in
    let same_state : u ≡ v = ap (λ o. o.left) h in
    cc
came s u (Ok b) (Err e) h a is = let same_answer : Ok b ≡ Err e = ap (λ o. o.answer) h in cc
came s u (Err d) p h a is = cc is

-- why a call was refused, and what it leaves

pub refused_with : {A S : Type 0} (s u : S) (r : Result A Refusal) (p : Result (A × S) Refusal) → left_with r u ≡ outcome s p → (e : Refusal) → r ≡ Err e → p ≡ Err e
refused_with s u (Ok b) p h e is = cc is
refused_with s u (Err d) (Ok (c, v)) h e is = let same_answer : Err d ≡ Ok c = ap (λ o. o.answer) h in cc
refused_with {A = A} s u (Err d) (Err g) h e is =
    let same_answer : ◌≡◌ {A = Result A Refusal} (Err d) (Err g) = ap (λ o. o.answer) h in
    let same : g ≡ e = cc in
    ap Err same

pub stayed : {A S : Type 0} (s u : S) (r : Result A Refusal) (p : Result (A × S) Refusal) → left_with r u ≡ outcome s p → result_ok r ≡ None → u ≡ s
stayed s u (Ok b) p h is = cc is
stayed s u (Err d) (Ok (c, v)) h is = let same_answer : Err d ≡ Ok c = ap (λ o. o.answer) h in cc
stayed s u (Err d) (Err e) h is = ap (λ o. o.left) h

module _ (J : JobData) (N : NetData) (ρ : Ways) (given : Given J N ρ) (S U : DrawState) (t m : ℕ) (r : Result ℕ Refusal) (f : ℕ) (ordered : Ordered J N ρ S) (h : left_with r U ≡ outcome S (placed J N ρ S t m)) (is : result_ok r ≡ Some f) where
  abbrev there : placed J N ρ S t m ≡ Ok (f, U)
  there = came S U r (placed J N ρ S t m) h f is

  pub ordered_then : Ordered J N ρ U
  ordered_then = placing_keeps_order J N ρ given S U t m f ordered there

  pub same_again : (V : DrawState) (back : Result ℕ Refusal) → left_with back V ≡ outcome U (undone J N ρ U (last_step U.plan)) → V ≡ S
  same_again V back h2 =
      let undoes = take_back_undoes_place J N ρ given S U t m f ordered there in
      let taken : left_with back V ≡ outcome U (undone J N ρ U (Some t)) = h2 ∙ ap (λ o. outcome U (undone J N ρ U o)) undoes.last in
      ap (λ o. o.left) taken ∙ undoes.before
