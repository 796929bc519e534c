-- What no refusal at all means.
use Rattle.std.proofs.Common.{◌≡◌, ℕ, zero, suc, ◌+◌, true, false, List, [], ◌∷◌, is_some, is_ok, Some, None, Option, Ok, Err, Result, sym, refl, ap, ◌∙◌, arith}
use Rattle.std.specs.List.{slice_get}
use Rattle.std.proofs.lemmas.Bool.{true≢false}
use Rattle.model.specs.Refusals.{or_else, first_refusal, refusal_of}

pub some≢none : {A : Type 0} {x : A} → Some x ≡ None → ⊥
some≢none e = let z : ◌≡◌ {A = ℕ} 0 1 = cc in omega arith

pub none_from : {E : Type 0} (o : Option E) → is_some o ≡ false → o ≡ None
none_from None e = refl
none_from (Some x) e = let z : ◌≡◌ {A = ℕ} 0 1 = cc in absurd (omega arith)

pub or_none : {E : Type 0} (o p : Option E) → or_else o p ≡ None → (o ≡ None) × (p ≡ None)
or_none None p e = (refl, e)
or_none (Some x) p e = absurd (some≢none e)

pub or_both : {E : Type 0} (o p : Option E) → o ≡ None → p ≡ None → or_else o p ≡ None
or_both None p e f = f
or_both (Some x) p e f = e

-- where nothing is refused, each element passes at its place
pub first_passes : {X E : Type 0} (refuse : ℕ → X → Option E) (i : ℕ) (xs : List X) → first_refusal refuse i xs ≡ None → (k : ℕ) (x : X) → slice_get xs k ≡ Some x → refuse (i + k) x ≡ None
first_passes refuse i [] none k x e = absurd (some≢none (sym e))
first_passes refuse i (y ∷ ys) none zero x e =
    let same : y ≡ x = cc in
    let at : i + 0 ≡ i = omega arith in
    ap (λ n. refuse n x) at ∙ ap (refuse i) (sym same) ∙ (or_none (refuse i y) _ none).0
first_passes refuse i (y ∷ ys) none (suc k) x e =
    let at : i + suc k ≡ i + 1 + k = omega arith in
    ap (λ n. refuse n x) at ∙ first_passes refuse (i + 1) ys (or_none (refuse i y) _ none).1 k x e

-- where each element passes at its place, nothing is refused
pub first_pass : {X E : Type 0} (refuse : ℕ → X → Option E) (i : ℕ) (xs : List X) → ((k : ℕ) (x : X) → slice_get xs k ≡ Some x → refuse (i + k) x ≡ None) → first_refusal refuse i xs ≡ None
first_pass refuse i [] pass = refl
first_pass refuse i (y ∷ ys) pass =
    let at : i ≡ i + 0 = omega arith in
    or_both (refuse i y) (first_refusal refuse (i + 1) ys) (ap (λ n. refuse n y) at ∙ pass 0 y refl)
    (first_pass refuse (i + 1) ys (λ k x e.
    let next : i + 1 + k ≡ i + suc k = omega arith in
    ap (λ n. refuse n x) next ∙ pass (suc k) x e))

-- a maker's answer is good exactly if nothing is refused
pub unrefused : {X E : Type 0} (r : Result X E) (o : Option E) → refusal_of r ≡ o → (is_ok r ≡ true → o ≡ None) × (o ≡ None → is_ok r ≡ true)
unrefused (Ok x) o e = (λ _. sym e, λ _. refl)
unrefused (Err x) o e = (λ h. absurd (true≢false (sym h)), λ none. absurd (some≢none (e ∙ none)))
