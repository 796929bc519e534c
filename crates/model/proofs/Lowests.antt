-- What `lowest` names, and a loop's steps over it.
use Rattle.std.proofs.Common.{◌≡◌, ℕ, zero, suc, ◌+◌, ◌<◌, ◌⊎◌, Some, None, Option, sym, refl, ap, ◌∙◌, inl, inr, ⊎_elim, add-one, arith}
use Rattle.std.proofs.lemmas.Bool.{cases_lt}
use Rattle.model.specs.Refusals.{or_else}
use Rattle.model.specs.Lowest.{lowest}
use Rattle.model.proofs.Firsts.{some≢none, or_none}

module _ {A : Type 0} where
  pub or_some : (o u : Option A) (x : A) → or_else o u ≡ Some x → (o ≡ Some x) ⊎ ((o ≡ None) × (u ≡ Some x))
  or_some None u x e = inr (refl, e)
  or_some (Some y) u x e = inl e

  -- no number below n has an answer
  pub lowest_none : (f : ℕ → Option A) (n : ℕ) → lowest f n ≡ None → (k : ℕ) → k < n → f k ≡ None
  unfolding lowest
  lowest_none f zero e k h = absurd (omega arith)
  lowest_none f (suc n) e k h =
      let parts = or_none (lowest f n) (f n) e in
      ⊎_elim (λ l. lowest_none f n parts.0 k l) (λ l. let same : k ≡ n = omega arith in ap f same ∙ parts.1) (cases_lt k n)

  -- the answer is that of a number, and no lower one has any
  pub lowest_some : (f : ℕ → Option A) (n : ℕ) (x : A) → lowest f n ≡ Some x → (k : ℕ) × (k < n) × (f k ≡ Some x) × ((j : ℕ) → j < k → f j ≡ None)
  unfolding lowest
  lowest_some f zero x e = absurd (some≢none (sym e))
  lowest_some f (suc n) x e =
      ⊎_elim (λ h. let r = lowest_some f n x h in (r.0, omega (arith, r.1), r.2, r.3))
      (λ h. (n, omega arith, h.1, lowest_none f n h.0))
      (or_some (lowest f n) (f n) x e)

  -- the same in a loop's steps
  pub lowest_start : (f : ℕ → Option A) → lowest f 0 ≡ None
  unfolding lowest
  lowest_start f = refl

  pub lowest_more : (f : ℕ → Option A) (k : ℕ) → lowest f k ≡ None → f k ≡ None → lowest f (k + 1) ≡ None
  unfolding lowest
  lowest_more f k e h = ap (lowest f) (add-one k) ∙ ap (λ o. or_else o (f k)) e ∙ h

  pub lowest_found : (f : ℕ → Option A) (k n : ℕ) (x : A) → lowest f k ≡ None → f k ≡ Some x → k < n → lowest f n ≡ Some x
  unfolding lowest
  lowest_found f k zero x e h l = absurd (omega arith)
  lowest_found f k (suc n) x e h l =
      ⊎_elim (λ m. ap (λ o. or_else o (f n)) (lowest_found f k n x e h m))
      (λ m. let same : k ≡ n = omega arith in ap (λ o. or_else o (f n)) (ap (lowest f) (sym same) ∙ e) ∙ ap f (sym same) ∙ h)
      (cases_lt k n)

  -- every number below n has no answer: so has the lowest none
  pub lowest_all : (f : ℕ → Option A) (n : ℕ) → ((k : ℕ) → k < n → f k ≡ None) → lowest f n ≡ None
  unfolding lowest
  lowest_all f zero none = refl
  lowest_all f (suc n) none = ap (λ o. or_else o (f n)) (lowest_all f n (λ k l. none k (omega arith))) ∙ none n (omega arith)
