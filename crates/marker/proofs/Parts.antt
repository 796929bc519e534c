-- What the tests' parts say: `some_is` and `any`.
use Rattle.std.proofs.Common.{◌≡◌, ℕ, zero, suc, ◌<◌, Bool, true, List, [], ◌∷◌, length, Some, None, Option, sym, refl, ap, ◌∙◌, ⊎_elim, arith}
use Rattle.std.proofs.lemmas.Bool.{true≢false, or_cases, or_left, or_right}
use Rattle.std.specs.List.{slice_get}
use Rattle.model.proofs.Firsts.{some≢none}
use Rattle.marker.specs.Verdicts.{some_is, any}

module _ {A : Type 0} where
  pub some_parts : (o : Option A) (p : A → Bool) → some_is o p ≡ true → (x : A) × (o ≡ Some x) × (p x ≡ true)
  some_parts None p h = absurd (true≢false (sym h))
  some_parts (Some x) p h = (x, refl, h)

  pub some_from : (o : Option A) (p : A → Bool) (x : A) → o ≡ Some x → p x ≡ true → some_is o p ≡ true
  some_from o p x e h = ap (λ u. some_is u p) e ∙ h

  pub any_parts : (xs : List A) (p : A → Bool) → any xs p ≡ true → (k : ℕ) × (x : A) × (slice_get xs k ≡ Some x) × (p x ≡ true)
  unfolding any
  any_parts [] p h = absurd (true≢false (sym h))
  any_parts (x ∷ xs) p h = ⊎_elim (λ here. (0, x, refl, here)) (λ there. let r = any_parts xs p there in (suc r.0, r.1, r.2, r.3)) (or_cases (p x) (any xs p) h)

  pub any_from : (xs : List A) (p : A → Bool) (k : ℕ) (x : A) → slice_get xs k ≡ Some x → p x ≡ true → any xs p ≡ true
  unfolding any
  any_from [] p k x e h = absurd (some≢none (sym e))
  any_from (y ∷ ys) p zero x e h = let same : y ≡ x = cc in or_left (p y) (any ys p) (ap p same ∙ h)
  any_from (y ∷ ys) p (suc k) x e h = or_right (p y) (any ys p) (any_from ys p k x e h)

  pub nth_below : (xs : List A) (k : ℕ) (x : A) → slice_get xs k ≡ Some x → k < length xs
  nth_below [] k x e = absurd (some≢none (sym e))
  nth_below (y ∷ ys) zero x e = omega arith
  nth_below (y ∷ ys) (suc k) x e = omega (arith, nth_below ys k x e)
