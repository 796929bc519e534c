-- Runs of ones and of zeros in one word.
use Rattle.std.proofs.Common.{◌≡◌, ℕ, ◌+◌, ◌-◌, ◌/◌, ◌^◌, ◌<◌, ◌≤◌, min, suc, sym, ap, ◌∙◌, ⊎_elim, arith, w64, bit_and}
use Rattle.std.specs.Int.{bit_at, leading_zeros}
use Rattle.std.specs.Int.Count.{count_leading_zeros, leading_of_zero}
use Rattle.std.proofs.Math.Nat.{pow-suc}
use Rattle.std.proofs.lemmas.Bool.{cases_lt, cases_eq}
use Rattle.std.proofs.lemmas.Nat.{leading_top, le-div, div_below, pow_pos}
use Rattle.std.proofs.lemmas.Nat.Bits.{bit_at-lt, bit_at-zero, bit_at_and, bit_at_above}
use Rattle.timetable.specs.Bits.{EachPlace, HasPlace, AreRuns}
use Rattle.timetable.proofs.Words.{bit_at_shr}

-- the runs of one place
pub runs_one : (word : ℕ) → AreRuns word word 1
runs_one word = record {
  whole = λ i e k late before. let same : k ≡ i = omega arith in ap (bit_at word) same ∙ e;
  broken = λ i e. (i, omega arith, omega arith, e);
}

-- two runs that meet are one
pub runs_more : (word starts n s : ℕ) → s ≤ n → AreRuns word starts n → AreRuns word (bit_and starts (starts / 2 ^ s)) (n + s)
runs_more word starts n s short runs = record {
  whole = λ i e k late before.
      let both : min (bit_at starts i) (bit_at starts (s + i)) ≡ 1 = ap (min (bit_at starts i)) (sym (bit_at_shr starts s i)) ∙ sym (bit_at_and starts (starts / 2 ^ s) i) ∙ e in
      let first : bit_at starts i ≡ 1 = omega (arith, both, bit_at-lt starts i) in
      let second : bit_at starts (s + i) ≡ 1 = omega (arith, both, bit_at-lt starts (s + i)) in
      ⊎_elim (λ early. runs.whole i first k late early) (λ behind. runs.whole (s + i) second k (omega arith) (omega arith)) (cases_lt k (i + n));
  broken = λ i e.
      let both : min (bit_at starts i) (bit_at starts (s + i)) ≡ 0 = ap (min (bit_at starts i)) (sym (bit_at_shr starts s i)) ∙ sym (bit_at_and starts (starts / 2 ^ s) i) ∙ e in
      ⊎_elim
      (λ first. let h = runs.broken i first in (h.0, h.1, omega (arith, h.2), h.3))
      (λ some.
      let second : bit_at starts (s + i) ≡ 0 = omega (arith, both, some) in
      let h = runs.broken (s + i) second in
      (h.0, omega (arith, h.1), omega (arith, h.2), h.3))
      (cases_eq (bit_at starts i) 0);
}

-- where there is no run, there is no longer one
pub runs_none : (word n m : ℕ) → n ≤ m → AreRuns word 0 n → AreRuns word 0 m
runs_none word n m longer runs = record {
  whole = λ i e. absurd (omega (arith, bit_at-zero i, e));
  broken = λ i e. let h = runs.broken i e in (h.0, h.1, omega (arith, h.2), h.3);
}

-- behind a word there is no one
pub past_word : (word i n : ℕ) → word < 2 ^ 64 → i < 64 → 64 < n → HasPlace word 0 i n
past_word word i n fits inside long = (64, omega arith, omega arith, bit_at_above word 64 64 fits (omega arith))

-- the zeros behind the last one

module _ (word : ℕ) (fits : word < 2 ^ 64) where
  top : 0 < word → (j : ℕ) × (count_leading_zeros 64 word + suc j ≡ 64) × (bit_at word j ≡ 1) × EachPlace word 0 (suc j) 64
  top some =
      let h = leading_top 64 word some fits in
      let low : 1 ≤ word / 2 ^ h.0 = le-div 1 word (2 ^ h.0) (pow_pos h.0) (omega (arith, h.2)) in
      let high : word / 2 ^ h.0 < 2 = div_below word (2 ^ h.0) 2 (pow_pos h.0) (omega (arith, h.3, pow-suc 2 h.0)) in
      (h.0, h.1, omega arith, λ i late before. bit_at_above word (suc h.0) i h.3 late)

  pub last_clear : EachPlace word 0 (64 - leading_zeros w64 word) 64
  last_clear i late before =
      ⊎_elim (λ some. let h = top some in h.3 i (omega (arith, h.1, late)) before)
      (λ none. let zero : word ≡ 0 = omega arith in ap (λ m. bit_at m i) zero ∙ bit_at-zero i)
      (cases_lt 0 word)

  pub last_set : 0 < 64 - leading_zeros w64 word → bit_at word (64 - leading_zeros w64 word - 1) ≡ 1
  last_set one =
      ⊎_elim (λ some. let h = top some in let at : 64 - leading_zeros w64 word - 1 ≡ h.0 = omega (arith, h.1) in ap (bit_at word) at ∙ h.2)
      (λ none. let zero : word ≡ 0 = omega arith in absurd (omega (arith, one, ap (leading_zeros w64) zero, leading_of_zero 64)))
      (cases_lt 0 word)
