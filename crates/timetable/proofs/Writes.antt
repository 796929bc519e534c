-- Bits of a row of words that are written a word at a time.
use Rattle.std.proofs.Common.{◌≡◌, ◌≢◌, ℕ, ◌+◌, ◌*◌, ◌/◌, ◌%◌, ◌^◌, ◌<◌, ◌≤◌, ◌⊎◌, List, length, get_or, set, inl, inr, refl, sym, ap, ◌∙◌, ⊎_elim, arith, w64, bit_and, bit_or}
use Rattle.std.specs.Int.{bit_at, bit_not}
use Rattle.std.proofs.lemmas.Bool.{cases_lt, cases_eq}
use Rattle.std.proofs.lemmas.List.{get_or-set_same, get_or-set_other}
use Rattle.std.proofs.lemmas.Nat.Bits.{bit_at-lt, bit_at_and, bit_at_or, bit_at_not}
use Rattle.timetable.specs.Bits.{bit_of, EachPlace, IsWritten}

-- a word with v at the places from low up to high, and the bits of another elsewhere
pub record IsMasked (word new v low high : ℕ) : Type 0 where
  pub below : (i : ℕ) → i < low → bit_at new i ≡ bit_at word i
  pub inside : EachPlace new v low high
  pub above : (i : ℕ) → high ≤ i → i < 64 → bit_at new i ≡ bit_at word i

module _ (word m low high : ℕ) (in_word : high ≤ 64) (order : low < high) (below : EachPlace m 0 0 low) (inside : EachPlace m 1 low high) (above : EachPlace m 0 high 64) where
  pub masked_or : IsMasked word (bit_or word m) 1 low high
  masked_or = record {
    below = λ i before. omega (arith, bit_at_or word m i, below i (omega arith) before);
    inside = λ i late before. omega (arith, bit_at_or word m i, bit_at-lt word i, inside i late before);
    above = λ i late before. omega (arith, bit_at_or word m i, above i late before);
  }

  pub masked_and_not : m < 2 ^ 64 → IsMasked word (bit_and word (bit_not w64 m)) 0 low high
  masked_and_not fits =
      let at = λ (i : ℕ) (h : i < 64). bit_at_not w64 m i fits h in
      record {
        below = λ i before. let h : i < 64 = omega arith in omega (arith, bit_at_and word (bit_not w64 m) i, at i h, bit_at-lt word i, below i (omega arith) before);
        inside = λ i late before. let h : i < 64 = omega arith in omega (arith, bit_at_and word (bit_not w64 m) i, at i h, inside i late before);
        above = λ i late before. omega (arith, bit_at_and word (bit_not w64 m) i, at i before, bit_at-lt word i, above i late before);
      }

-- a bit after a word is written

bit_of_set_in : (words : List ℕ) (k y t : ℕ) → k < length words → t / 64 ≡ k → bit_of (set words k y) t ≡ bit_at y (t % 64)
unfolding bit_of
bit_of_set_in words k y t within here =
    ap (λ j. bit_at (get_or (set words k y) j 0) (t % 64)) here ∙ ap (λ w. bit_at w (t % 64)) (get_or-set_same words k y 0 within)

bit_of_set_out : (words : List ℕ) (k y t : ℕ) → t / 64 ≢ k → bit_of (set words k y) t ≡ bit_of words t
unfolding bit_of
bit_of_set_out words k y t away = ap (λ w. bit_at w (t % 64)) (get_or-set_other words k (t / 64) y 0 away)

bit_of_word : (words : List ℕ) (k t : ℕ) → t / 64 ≡ k → bit_of words t ≡ bit_at (get_or words k 0) (t % 64)
unfolding bit_of
bit_of_word words k t here = ap (λ j. bit_at (get_or words j 0) (t % 64)) here

module _ (old words : List ℕ) (v from at high y : ℕ) (late : from ≤ at) (within : at / 64 < length words) (masked : IsMasked (get_or words (at / 64) 0) y v (at % 64) high) (in_word : high ≤ 64) (some : at % 64 < high) where
  -- a bit before the run or behind it is as it was
  kept : (t : ℕ) → (t < at) ⊎ (64 * (at / 64) + high ≤ t) → bit_of (set words (at / 64) y) t ≡ bit_of words t
  kept t apart =
      ⊎_elim
      (λ here.
      bit_of_set_in words (at / 64) y t within here
      ∙ ⊎_elim (λ below. masked.below (t % 64) (omega arith)) (λ above. masked.above (t % 64) (omega arith) (omega arith)) apart
      ∙ sym (bit_of_word words (at / 64) t here))
      (λ away. bit_of_set_out words (at / 64) y t away)
      (cases_eq (t / 64) (at / 64))

  pub written_more : IsWritten old words v from at → IsWritten old (set words (at / 64) y) v from (64 * (at / 64) + high)
  written_more before = record {
    inside = λ t from_on sooner.
        ⊎_elim (λ already. kept t (inl already) ∙ before.inside t from_on already)
        (λ now.
        let here : t / 64 ≡ at / 64 = omega arith in
        bit_of_set_in words (at / 64) y t within here ∙ masked.inside (t % 64) (omega arith) (omega arith))
        (cases_lt t at);
    outside = λ t apart.
        ⊎_elim (λ below. let h : t < at = omega arith in kept t (inl h) ∙ before.outside t (inl below))
        (λ above. let h : at ≤ t = omega arith in kept t (inr above) ∙ before.outside t (inr h)) apart;
  }

pub written_none : (words : List ℕ) (v from : ℕ) → IsWritten words words v from from
written_none words v from = record { inside = λ t late before. absurd (omega arith); outside = λ t apart. refl }
