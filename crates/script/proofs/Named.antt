-- What it is for a word to be a name, byte by byte.
use Rattle.std.proofs.Common.{◌≡◌, ◌≢◌, ℕ, suc, true, false, eqb, ◌⊎◌, inl, inr, ⊎_elim, List, [], ◌∷◌, length, get_or, refl, arith}
use Rattle.std.proofs.lemmas.Bool.{cases_Bool, eqb-true, eqb-false}
use Rattle.std.proofs.lemmas.Slice.Eq.{HasBytesAt}
use Rattle.script.specs.Words.{same_word}

-- one of the bytes of p does not stand in w from place i on
abbrev pub Differs : List ℕ → ℕ → List ℕ → Type 0
Differs w i [] = ⊥
Differs w i (c ∷ p) = (get_or w i 0 ≢ c) ⊎ Differs w (suc i) p

abbrev pub IsName : List ℕ → List ℕ → Type 0
IsName w p = ((same_word w p ≡ true) × (length w ≡ length p) × HasBytesAt w 0 p) ⊎ ((same_word w p ≡ false) × ((length w ≢ length p) ⊎ Differs w 0 p))

bytes_behind : (b : ℕ) (w : List ℕ) (i : ℕ) (p : List ℕ) → HasBytesAt w i p → HasBytesAt (b ∷ w) (suc i) p
bytes_behind b w i [] r = tt
bytes_behind b w i (c ∷ p) r = (r.0, bytes_behind b w (suc i) p r.1)

differs_behind : (b : ℕ) (w : List ℕ) (i : ℕ) (p : List ℕ) → Differs w i p → Differs (b ∷ w) (suc i) p
differs_behind b w i [] d = d
differs_behind b w i (c ∷ p) d = elim d [ inl other ↦ inl other | inr later ↦ inr (differs_behind b w (suc i) p later) ]

name_more : (b c : ℕ) (w p : List ℕ) → IsName w p → IsName (b ∷ w) (c ∷ p)
unfolding same_word
name_more b c w p is =
    ⊎_elim
    (λ (same : eqb b c ≡ true).
    elim is [
      | inl (is', long, r) ↦ inl (rw (same, is') refl, omega (arith, long), (eqb-true b c same, bytes_behind b w 0 p r))
      | inr (no', inl short) ↦ inr (rw (same, no') refl, inl (λ e. short (omega (arith, e))))
      | inr (no', inr d) ↦ inr (rw (same, no') refl, inr (inr (differs_behind b w 0 p d)))
    ])
    (λ (other : eqb b c ≡ false). inr (rw other refl, inr (inl (eqb-false b c other))))
    (cases_Bool (eqb b c))

pub is_name : (w p : List ℕ) → IsName w p
unfolding same_word
is_name [] [] = inl (refl, refl, tt)
is_name [] (c ∷ p) = inr (refl, inl (λ e. omega (arith, e)))
is_name (b ∷ w) [] = inr (refl, inl (λ e. omega (arith, e)))
is_name (b ∷ w) (c ∷ p) = name_more b c w p (is_name w p)
