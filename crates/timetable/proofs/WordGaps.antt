-- The next run of zeros in a word, behind a one.
use Rattle.std.proofs.Common.{◌≡◌, ℕ, ◌+◌, ◌-◌, ◌/◌, ◌^◌, ◌<◌, ◌≤◌, ◌⊎◌, min, inl, inr, ap, ◌∙◌, ⊎_elim, arith, w64}
use Rattle.std.specs.Int.{bit_at, bit_not, leading_zeros}
use Rattle.std.proofs.lemmas.Bool.{cases_lt}
use Rattle.std.proofs.lemmas.Nat.Bits.{bit_at-lt, bit_at_not, bit_at_above}
use Rattle.timetable.specs.Bits.{EachPlace, HasPlace}
use Rattle.timetable.proofs.Words.{bit_at_shr}
use Rattle.timetable.proofs.WordRuns.{last_clear, last_set}

-- the word with ones where the places from `one` on are zeros
abbrev zeros_from : ℕ → ℕ → ℕ
zeros_from word one = bit_not w64 word / 2 ^ one

module _ (word one count : ℕ) (fits : word < 2 ^ 64) (in_word : one < 64) where
  zero_at : (i : ℕ) → one + i < 64 → bit_at (zeros_from word one) i ≡ 1 - bit_at word (one + i)
  zero_at i inside = bit_at_shr (bit_not w64 word) one i ∙ bit_at_not w64 word (one + i) fits inside

  none_past : (i : ℕ) → 64 ≤ one + i → bit_at (zeros_from word one) i ≡ 0
  none_past i past = bit_at_shr (bit_not w64 word) one i ∙ bit_at_above (bit_not w64 word) 64 (one + i) (omega arith) past

  -- a run of zeros that is broken has a one, or goes on past the word
  broken : (i : ℕ) → HasPlace (zeros_from word one) 0 i count → HasPlace word 1 (one + i) count ⊎ (64 < one + i + count)
  broken i has =
      ⊎_elim
      (λ inside. inl (one + has.0, omega (arith, has.1), omega (arith, has.2), omega (arith, zero_at has.0 inside, has.3, bit_at-lt word (one + has.0))))
      (λ past. inr (omega (arith, has.2)))
      (cases_lt (one + has.0) 64)

  -- where the run is whole

  module _ (some : 1 ≤ count) (run : ℕ) (found : EachPlace (zeros_from word one) 1 run (run + count)) where
    pub run_within : one + run + count ≤ 64
    run_within =
        ⊎_elim (λ past. absurd (omega (arith, found (run + count - 1) (omega arith) (omega arith), none_past (run + count - 1) (omega arith)))) (λ h. h)
        (cases_lt 64 (one + run + count))

    pub run_clear : EachPlace word 0 (one + run) (min 64 (one + run + count))
    run_clear i late before =
        let at : one + (i - one) ≡ i = omega arith in
        let here : bit_at (zeros_from word one) (i - one) ≡ 1 - bit_at word i = zero_at (i - one) (omega arith) ∙ ap (λ k. 1 - bit_at word k) at in
        omega (arith, here, found (i - one) (omega arith) (omega arith), bit_at-lt word i)

    pub run_passed : ((i : ℕ) → i < run → HasPlace (zeros_from word one) 0 i count) → (i : ℕ) → one ≤ i → i < one + run → HasPlace word 1 i count
    run_passed passed i late before =
        let at : one + (i - one) ≡ i = omega arith in
        ⊎_elim (λ h. (h.0, omega (arith, h.1), omega (arith, h.2), h.3)) (λ past. absurd (omega (arith, past, run_within)))
        (broken (i - one) (passed (i - one) (omega arith)))

  -- where there is none, behind the last one

  abbrev pub last_end : ℕ
  last_end = 64 - leading_zeros w64 word

  module _ (is_one : bit_at word one ≡ 1) where
    pub last_behind : one < last_end
    last_behind = ⊎_elim (λ h. h) (λ not_before. absurd (omega (arith, is_one, last_clear word fits one not_before in_word))) (cases_lt one last_end)

    pub last_passed : ((i : ℕ) → i < 64 → HasPlace (zeros_from word one) 0 i count) → (i : ℕ) → one ≤ i → i < last_end → HasPlace word 1 i count
    last_passed passed i late before =
        let at : one + (i - one) ≡ i = omega arith in
        ⊎_elim (λ h. (h.0, omega (arith, h.1), omega (arith, h.2), h.3))
        (λ past. (last_end - 1, omega arith, omega (arith, past), last_set word fits (omega arith)))
        (broken (i - one) (passed (i - one) (omega arith)))
