-- Every list of calls from a new sheet leads to a drawn state.
use Rattle.std.proofs.Common.{◌≡◌, ℕ, Bool, true, false, not, List, [], ◌∷◌, Some, None, Ok, Err, Option, Result, refl, sym, ap, subst, ◌∙◌, if◌then◌else◌, is_ok}
use Rattle.std.specs.Bool.{then_some}
use Rattle.model.specs.Data.{JobData, NetData}
use Rattle.model.specs.Plans.{last_step, plan_length}
use Rattle.model.specs.declared.refusal.Refusal.{Refusal}
use Rattle.model.specs.declared.refusal.Refusal.TheVariants.{NotInOrder}
use Rattle.routes.specs.Legs.{Ways}
use Rattle.planner.specs.Chains.{unless, and_then}
use Rattle.planner.specs.Drawing.{place, guarded, without_step, undone}
use Rattle.planner.specs.Filling.{filled, placed_first, by_priority, unplaced_tasks}
use Rattle.planner.specs.Levels.{bottom_level}
use Rattle.planner.specs.Order.{in_order}
use Rattle.planner.specs.Outcomes.{DrawState, outcome}
use Rattle.planner.specs.Placing.{placed}
use Rattle.planner.specs.States.{Given, Ordered}
use Rattle.planner.specs.Trials.{Sheet, BeingDrawn, BeingTried}
use Rattle.planner.proofs.KeptOrder.{placing_keeps_order}
use Rattle.planner.proofs.PlaceUndone.{take_back_undoes_place}
use Rattle.planner.proofs.FirstFinishes.{placed_where_first}
use Rattle.certificate.specs.Calls.{carry_out, after}
use Rattle.certificate.specs.Certificate.{Drawn, new_sheet, one_more}
use Rattle.certificate.specs.Sheets.{state_on}
use Rattle.certificate.specs.declared.call.Call.{Call}
use Rattle.certificate.specs.declared.call.Call.TheVariants.{Place, Try, Keep, Strike, TakeBack, Fill}
use Rattle.certificate.proofs.BlankOrders.{blank_ordered}

-- what a call leaves is what was there, or what its answer comes with
outcome_leaves : {A : Type 0} (P : DrawState → Type 0) (S : DrawState) (o : Option Refusal) (r : Result (A × DrawState) Refusal) → P S → ((a : A) (U : DrawState) → r ≡ Ok (a, U) → P U) → P (outcome S (unless o r)).left
outcome_leaves P S (Some e) r here there = here
outcome_leaves P S None (Ok x) here there = there x.0 x.1 refl
outcome_leaves P S None (Err e) here there = here

guarded_leaves : {A : Type 0} (J : JobData) (N : NetData) (ρ : Ways) (P : DrawState → Type 0) (S : DrawState) (call : Result (A × DrawState) Refusal) → P S → ((a : A) (U : DrawState) → call ≡ Ok (a, U) → P U) → P (guarded J N ρ S call).left
guarded_leaves J N ρ P S call here there = outcome_leaves P S (then_some (not (in_order J N ρ S)) NotInOrder) call here there

-- whichever of two states is left
either_leaves : (P : DrawState → Type 0) (b : Bool) (S U : DrawState) → P S → P U → P (state_on (if b then BeingTried U else BeingDrawn S))
either_leaves P true S U here there = there
either_leaves P false S U here there = here

-- the state with which a result comes
state_with : {A : Type 0} → DrawState → Result (A × DrawState) Refusal → DrawState
state_with S (Ok x) = x.1
state_with S (Err e) = S

ok_state : {A : Type 0} (x y : A × DrawState) → ◌≡◌ {A = Result (A × DrawState) Refusal} (Ok x) (Ok y) → x.1 ≡ y.1
unfolding state_with
ok_state x y e = ap (state_with x.1) e

-- a chain that ends well has a first part that does
and_then_ok : {A B : Type 0} (r : Result A Refusal) (next : A → Result B Refusal) (b : B) → and_then r next ≡ Ok b → (a : A) × (r ≡ Ok a) × (next a ≡ Ok b)
and_then_ok (Ok a) next b e = (a, refl, e)
and_then_ok (Err x) next b e = cc e

module _ (J : JobData) (N : NetData) (ρ : Ways) (given : Given J N ρ) where
  pub drawn_ordered : {S : DrawState} → Drawn J N ρ S → Ordered J N ρ S
  drawn_ordered (new_sheet T empty) = blank_ordered J N ρ T empty
  drawn_ordered (one_more {S} {after = U} t m f d e) = placing_keeps_order J N ρ given S U t m f (drawn_ordered d) e

  -- taking a step back from a drawn state leads to the state before it
  taken_back : {S : DrawState} (t : ℕ) → Drawn J N ρ S → last_step S.plan ≡ Some t → Drawn J N ρ (without_step J N ρ S t)
  taken_back t (new_sheet T empty) last = cc last
  taken_back u (one_more {S} {after = U} t m f d e) last =
      let un = take_back_undoes_place J N ρ given S U t m f (drawn_ordered d) e in
      let some : Some t ≡ Some u = sym un.last ∙ last in
      let same : t ≡ u = cc some in
      subst (λ v. Drawn J N ρ (without_step J N ρ U v)) same (subst (λ X. Drawn J N ρ X) (sym un.before) d)

  undone_drawn : {S : DrawState} → Drawn J N ρ S → (o : Option ℕ) → last_step S.plan ≡ o → (t : ℕ) (U : DrawState) → undone J N ρ S o ≡ Ok (t, U) → Drawn J N ρ U
  undone_drawn d None last t U e = cc e
  undone_drawn {S} d (Some u) last t U e =
      let is : without_step J N ρ S u ≡ U = ok_state (u, without_step J N ρ S u) (t, U) e in
      subst (λ X. Drawn J N ρ X) is (taken_back u d last)

  filled_drawn : (ts : List ℕ) {S : DrawState} → Drawn J N ρ S → (U : DrawState) → filled J N ρ ts S ≡ Ok U → Drawn J N ρ U
  unfolding filled
  filled_drawn [] {S} d U e = let is : S ≡ U = cc e in subst (λ X. Drawn J N ρ X) is d
  filled_drawn (t ∷ ts) {S} d U e =
      let x = and_then_ok (placed_first J N ρ S t) (λ x. filled J N ρ ts x.1) U e in
      let first = placed_where_first J N ρ S t x.0.0 x.0.1 x.1 in
      filled_drawn ts (one_more t first.machine x.0.0 d first.there) U x.2

  -- one call leads from a drawn state to a drawn state
  call_drawn : (X : Sheet) (call : Call) → Drawn J N ρ (state_on X) → Drawn J N ρ (state_on (carry_out J N ρ X call).sheet)
  call_drawn (BeingDrawn S) (Place t m) d = guarded_leaves J N ρ (λ U. Drawn J N ρ U) S (placed J N ρ S t m) d (λ f U e. one_more t m f d e)
  call_drawn (BeingDrawn S) (Try t m) d =
      either_leaves (λ U. Drawn J N ρ U) (is_ok (place J N ρ S t m).answer) S (place J N ρ S t m).left d
      (guarded_leaves J N ρ (λ U. Drawn J N ρ U) S (placed J N ρ S t m) d (λ f U e. one_more t m f d e))
  call_drawn (BeingDrawn S) TakeBack d = guarded_leaves J N ρ (λ U. Drawn J N ρ U) S (undone J N ρ S (last_step S.plan)) d (λ t U e. undone_drawn d (last_step S.plan) refl t U e)
  call_drawn (BeingDrawn S) Fill d =
      guarded_leaves J N ρ (λ U. Drawn J N ρ U) S _ d (λ l U e.
      let x = and_then_ok (filled J N ρ (by_priority (bottom_level J) (unplaced_tasks J S.plan)) S) (λ V. Ok (plan_length J N V.plan, V)) (l, U) e in
      subst (λ V. Drawn J N ρ V) (ok_state (plan_length J N x.0.plan, x.0) (l, U) x.2) (filled_drawn (by_priority (bottom_level J) (unplaced_tasks J S.plan)) d x.0 x.1))
  call_drawn (BeingDrawn S) Keep d = d
  call_drawn (BeingDrawn S) Strike d = d
  call_drawn (BeingTried S) Keep d = d
  call_drawn (BeingTried S) Strike d = guarded_leaves J N ρ (λ U. Drawn J N ρ U) S (undone J N ρ S (last_step S.plan)) d (λ t U e. undone_drawn d (last_step S.plan) refl t U e)
  call_drawn (BeingTried S) (Place t m) d = d
  call_drawn (BeingTried S) (Try t m) d = d
  call_drawn (BeingTried S) TakeBack d = d
  call_drawn (BeingTried S) Fill d = d

  pub after_drawn : (X : Sheet) (calls : List Call) → Drawn J N ρ (state_on X) → Drawn J N ρ (state_on (after J N ρ X calls))
  unfolding after
  after_drawn X [] d = d
  after_drawn X (call ∷ calls) d = after_drawn (carry_out J N ρ X call).sheet calls (call_drawn X call d)
