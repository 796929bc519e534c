-- What was placed is taken back, step by step, until the state is the one that it began from.
use Rattle.std.proofs.Common.{◌≡◌, ℕ, ◌+◌, ◌<◌, ◌≤◌, Some, Ok, Result, refl, sym, ap, subst, ◌∙◌, arith}
use Rattle.model.specs.Data.{JobData, NetData}
use Rattle.model.specs.Plans.{last_step}
use Rattle.model.specs.declared.refusal.Refusal.{Refusal}
use Rattle.routes.specs.Legs.{Ways}
use Rattle.planner.specs.Calls.{left_with}
use Rattle.planner.specs.Drawing.{undone}
use Rattle.planner.specs.Outcomes.{DrawState, outcome}
use Rattle.planner.specs.Placing.{placed}
use Rattle.planner.specs.Reached.{Reached, itself, one_more, ReachedFrom}
use Rattle.planner.specs.States.{Given, Ordered}
use Rattle.planner.proofs.AfterPlacing.{placed_is}
use Rattle.planner.proofs.FillLoop.{ordered_reached}
use Rattle.planner.proofs.PlaceUndone.{take_back_undoes_place}

module _ (J : JobData) (N : NetData) (ρ : Ways) (given : Given J N ρ) (S : DrawState) (ordered : Ordered J N ρ S) where
  -- each place counts one more step
  counts_one_more : (U V : DrawState) (t m f : ℕ) → Reached J N ρ S U → placed J N ρ U t m ≡ Ok (f, V) → V.count ≡ U.count + 1
  counts_one_more U V t m f reached is = sym (ap (λ (W : DrawState). W.count) (placed_is J N ρ given U t m (ordered_reached J N ρ given S U ordered reached) f V is).is)

  counts_no_less : (U : DrawState) → Reached J N ρ S U → S.count ≤ U.count
  counts_no_less U itself = omega arith
  counts_no_less U (one_more {U = V} t m f reached is) = omega (arith, counts_no_less V reached, counts_one_more V U t m f reached is)

  -- a state that counts no more steps is the first one
  pub reached_same : (U : DrawState) → Reached J N ρ S U → U.count ≤ S.count → U ≡ S
  reached_same U itself few = refl
  reached_same U (one_more {U = V} t m f reached is) few = absurd (omega (arith, counts_no_less V reached, counts_one_more V U t m f reached is))

  -- of a state that counts more steps the last one can be taken back
  pub record Back (U V : DrawState) : Type 0 where
    pub reached : Reached J N ρ S V
    pub fewer : V.count + 1 ≡ U.count

  pub back_one : (U V : DrawState) (r : Result ℕ Refusal) → Reached J N ρ S U → S.count < U.count → left_with r V ≡ outcome U (undone J N ρ U (last_step U.plan)) → Back U V
  back_one U V r itself more h = absurd (omega arith)
  back_one U V r (one_more {U = W} t m f reached is) more h =
      let undoes = take_back_undoes_place J N ρ given W U t m f (ordered_reached J N ρ given S W ordered reached) is in
      let taken : left_with r V ≡ outcome U (undone J N ρ U (Some t)) = h ∙ ap (λ o. outcome U (undone J N ρ U o)) undoes.last in
      let same : V ≡ W = ap (λ o. o.left) taken ∙ undoes.before in
      record {
        reached = subst (Reached J N ρ S) (sym same) reached;
        fewer = omega (arith, ap (λ (X : DrawState). X.count) same, counts_one_more W U t m f reached is);
      }

module _ (J : JobData) (N : NetData) (ρ : Ways) (given : Given J N ρ) (count : ℕ) where
  pub from_ordered : (U S : DrawState) → ReachedFrom J N ρ count U S → Ordered J N ρ U
  from_ordered U S from = ordered_reached J N ρ given S U from.ordered from.reached

  pub from_back : (U V S : DrawState) (r : Result ℕ Refusal) → ReachedFrom J N ρ count U S → count < U.count → left_with r V ≡ outcome U (undone J N ρ U (last_step U.plan)) → ReachedFrom J N ρ count V S
  from_back U V S r from more h = record {
    ordered = from.ordered;
    counted = from.counted;
    reached = (back_one J N ρ given S from.ordered U V r from.reached (omega (arith, from.counted)) h).reached;
  }

  pub from_fewer : (U V S : DrawState) (r : Result ℕ Refusal) → ReachedFrom J N ρ count U S → count < U.count → left_with r V ≡ outcome U (undone J N ρ U (last_step U.plan)) → V.count < U.count
  from_fewer U V S r from more h = omega (arith, (back_one J N ρ given S from.ordered U V r from.reached (omega (arith, from.counted)) h).fewer)

  pub from_same : (U S : DrawState) → ReachedFrom J N ρ count U S → U.count ≤ count → U ≡ S
  from_same U S from few = reached_same J N ρ given S from.ordered U from.reached (omega (arith, from.counted))
