-- Proofs on reading a place of a list that is made of others; no definition to read stands here.
use Rattle.std.specs.Prelude.{◌≡◌, ℕ, zero, suc, ◌+◌, ◌<◌, ◌⊎◌, List, [], ◌∷◌, ◌++◌, length, take, Some, refl}
use Rattle.std.specs.List.{slice_get, enumerate_from, range_with_len}
use Rattle.std.proofs.Common.{ap, ◌∙◌, inl, inr, ⊎_elim, arith}
use Rattle.std.proofs.lemmas.Option.{none-some, same_Some}

-- place i of the first n
pub slice_get_take : {X : Type 0} (n : ℕ) (xs : List X) (i : ℕ) → i < n → slice_get (take n xs) i ≡ slice_get xs i
slice_get_take zero xs i h = absurd (omega arith)
slice_get_take (suc n) [] i h = refl
slice_get_take (suc n) (x ∷ xs) zero h = refl
slice_get_take (suc n) (x ∷ xs) (suc i) h = slice_get_take n xs i (omega arith)

pub within_take : {X : Type 0} (n : ℕ) (xs : List X) (i : ℕ) (x : X) → slice_get (take n xs) i ≡ Some x → (i < n) × (slice_get xs i ≡ Some x)
within_take zero xs i x at = absurd (none-some x at)
within_take (suc n) [] i x at = absurd (none-some x at)
within_take (suc n) (y ∷ ys) zero x at = (omega arith, at)
within_take (suc n) (y ∷ ys) (suc i) x at = let r = within_take n ys i x at in (omega (arith, r.0), r.1)

-- one element more at the end
pub slice_get_before_push : {X : Type 0} (xs : List X) (y : X) (i : ℕ) → i < length xs → slice_get (xs ++ y ∷ []) i ≡ slice_get xs i
slice_get_before_push [] y i h = absurd (omega arith)
slice_get_before_push (x ∷ xs) y zero h = refl
slice_get_before_push (x ∷ xs) y (suc i) h = slice_get_before_push xs y i (omega arith)

pub push_cases : {X : Type 0} (xs : List X) (y : X) (i : ℕ) (x : X) → slice_get (xs ++ y ∷ []) i ≡ Some x → ((i < length xs) × (slice_get xs i ≡ Some x)) ⊎ ((i ≡ length xs) × (y ≡ x))
push_cases [] y zero x at = inr (refl, same_Some y x at)
push_cases [] y (suc i) x at = absurd (none-some x at)
push_cases (z ∷ xs) y zero x at = inl (omega arith, at)
push_cases (z ∷ xs) y (suc i) x at =
    ⊎_elim (λ old. inl (omega (arith, old.0), old.1)) (λ new. inr (ap suc new.0, new.1)) (push_cases xs y i x at)

-- each element with its place
enumerate_at : {X : Type 0} (n : ℕ) (xs : List X) (i : ℕ) (x : X) → slice_get xs i ≡ Some x → slice_get (enumerate_from n xs) i ≡ Some (n + i, x)
enumerate_at n [] i x at = absurd (none-some x at)
enumerate_at n (y ∷ ys) zero x at = let place : n ≡ n + 0 = omega arith in let same = same_Some y x at in cc
enumerate_at n (y ∷ ys) (suc i) x at = let place : n + 1 + i ≡ n + suc i = omega arith in cc (enumerate_at (n + 1) ys i x at)

pub slice_get_enumerate : {X : Type 0} (xs : List X) (i : ℕ) (x : X) → slice_get xs i ≡ Some x → slice_get (enumerate_from 0 xs) i ≡ Some (i, x)
slice_get_enumerate xs i x at = let place : 0 + i ≡ i = omega arith in cc (enumerate_at 0 xs i x at)

enumerated_from : {X : Type 0} (n : ℕ) (xs : List X) (i : ℕ) (p : ℕ × X) → slice_get (enumerate_from n xs) i ≡ Some p → (p.0 ≡ n + i) × (slice_get xs i ≡ Some p.1)
enumerated_from n [] i p at = absurd (none-some p at)
enumerated_from n (y ∷ ys) zero p at = let same = same_Some (n, y) p at in let place : n ≡ n + 0 = omega arith in (cc, cc)
enumerated_from n (y ∷ ys) (suc i) p at = let r = enumerated_from (n + 1) ys i p at in (omega (arith, r.0), r.1)

pub enumerated : {X : Type 0} (xs : List X) (i : ℕ) (p : ℕ × X) → slice_get (enumerate_from 0 xs) i ≡ Some p → (p.0 ≡ i) × (slice_get xs i ≡ Some p.1)
enumerated xs i p at = let r = enumerated_from 0 xs i p at in (omega (arith, r.0), r.1)

-- the numbers below n
range_at : (a n i : ℕ) → i < n → slice_get (range_with_len a n) i ≡ Some (a + i)
range_at a zero i h = absurd (omega arith)
range_at a (suc n) zero h = let same : a ≡ a + 0 = omega arith in ap Some same
range_at a (suc n) (suc i) h = let same : a + 1 + i ≡ a + suc i = omega arith in range_at (a + 1) n i (omega arith) ∙ ap Some same

pub slice_get_range : (n i : ℕ) → i < n → slice_get (range_with_len 0 n) i ≡ Some i
slice_get_range n i h = let same : 0 + i ≡ i = omega arith in range_at 0 n i h ∙ ap Some same

in_range_from : (a n i t : ℕ) → slice_get (range_with_len a n) i ≡ Some t → (i < n) × (t ≡ a + i)
in_range_from a zero i t at = absurd (none-some t at)
in_range_from a (suc n) zero t at = (omega arith, omega (arith, same_Some a t at))
in_range_from a (suc n) (suc i) t at = let r = in_range_from (a + 1) n i t at in (omega (arith, r.0), omega (arith, r.1))

pub in_range : (n i t : ℕ) → slice_get (range_with_len 0 n) i ≡ Some t → (i < n) × (t ≡ i)
in_range n i t at = let r = in_range_from 0 n i t at in (omega (arith, r.0), omega (arith, r.1))
