-- Members of filtered and numbered lists, by their places.
use Rattle.std.proofs.Common.{◌≡◌, ℕ, zero, suc, ◌+◌, Bool, true, false, cond, List, [], ◌∷◌, filter, Some, refl, sym, ap, ◌∙◌, arith}
use Rattle.std.specs.List.{enumerate_from, slice_get}
use Rattle.std.proofs.lemmas.Bool.{cond-true}

module _ {X : Type 0} (p : X → Bool) where
  -- an element that passes stands in the filtered list
  pub filtered_at : (xs : List X) (i : ℕ) (x : X) → slice_get xs i ≡ Some x → p x ≡ true → (k : ℕ) × (slice_get (filter p xs) k ≡ Some x)
  filtered_at [] i x at passes = cc at
  filtered_at (y ∷ ys) zero x at passes =
      let same : y ≡ x = cc at in
      (0, ap (λ zs. slice_get zs 0) (cond-true (p y) (y ∷ filter p ys) (filter p ys) (ap p same ∙ passes)) ∙ at)
  filtered_at (y ∷ ys) (suc i) x at passes = go (p y) (filtered_at ys i x at passes)
    where
      go : (b : Bool) → (k : ℕ) × (slice_get (filter p ys) k ≡ Some x) → (k : ℕ) × (slice_get (cond b (y ∷ filter p ys) (filter p ys)) k ≡ Some x)
      go true there = (suc there.0, there.1)
      go false there = there

  -- where none passes, no element does
  pub none_filtered : (xs : List X) (i : ℕ) (x : X) → filter p xs ≡ [] → slice_get xs i ≡ Some x → p x ≡ false
  none_filtered xs i x none at = go (p x) refl
    where
      go : (b : Bool) → p x ≡ b → b ≡ false
      go false e = refl
      go true e = let there = filtered_at xs i x at e in let gone : slice_get {X = X} [] there.0 ≡ Some x = ap (λ ys. slice_get ys there.0) (sym none) ∙ there.1 in cc gone

pub numbered_at : {X : Type 0} (n : ℕ) (xs : List X) (i : ℕ) (x : X) → slice_get xs i ≡ Some x → slice_get (enumerate_from n xs) i ≡ Some (n + i, x)
numbered_at n [] i x at = cc at
numbered_at n (y ∷ ys) zero x at = let same : y ≡ x = cc at in let here : n ≡ n + 0 = omega arith in cc
numbered_at n (y ∷ ys) (suc i) x at = let there : n + 1 + i ≡ n + suc i = omega arith in numbered_at (n + 1) ys i x at ∙ ap (λ k. Some (k, x)) there
