-- One word: a run of ones, and the first one from a place on.
use Rattle.std.proofs.Common.{◌≡◌, ℕ, ◌+◌, ◌-◌, ◌*◌, ◌/◌, ◌%◌, ◌^◌, ◌<◌, ◌≤◌, min, sym, ap, ◌∙◌, ⊎_elim, arith, w64, bit_and}
use Rattle.std.specs.Int.{bit_at, trailing_zeros}
use Rattle.std.specs.Int.Count.{trailing_of_zero}
use Rattle.std.proofs.lemmas.Bool.{cases_lt}
use Rattle.std.proofs.lemmas.Nat.{shr-shr, shr_le}
use Rattle.std.proofs.lemmas.Nat.Bits.{bit_at-zero, bit_at-trailing_zeros, bit_at_and, bit_at_ones, bit_at_ones_above, bit_at_mask_inside, bit_at_mask_below, ones_shl, ones_shr}
use Rattle.timetable.specs.Bits.{EachPlace}

-- the first one

pub bit_at_shr : (n j i : ℕ) → bit_at (n / 2 ^ j) i ≡ bit_at n (j + i)
bit_at_shr n j i = ap (λ m. m % 2) (shr-shr n j i)

module _ (n : ℕ) (fits : n < 2 ^ 64) where
  pub trailing_clear : (i : ℕ) → i < trailing_zeros w64 n → bit_at n i ≡ 0
  trailing_clear i below =
      ⊎_elim (λ some. (bit_at-trailing_zeros w64 n some fits).2 i below) (λ none. let zero : n ≡ 0 = omega arith in ap (λ m. bit_at m i) zero ∙ bit_at-zero i)
      (cases_lt 0 n)

  pub trailing_set : trailing_zeros w64 n < 64 → bit_at n (trailing_zeros w64 n) ≡ 1
  trailing_set below =
      ⊎_elim (λ some. (bit_at-trailing_zeros w64 n some fits).1)
      (λ none. let zero : n ≡ 0 = omega arith in absurd (omega (arith, below, ap (trailing_zeros w64) zero, trailing_of_zero 64)))
      (cases_lt 0 n)

abbrev pub one_from : ℕ → ℕ → ℕ
one_from word from = min 64 (from + trailing_zeros w64 (word / 2 ^ from))

module _ (word from : ℕ) (fits : word < 2 ^ 64) where
  rest_fits : word / 2 ^ from < 2 ^ 64
  rest_fits = omega (arith, shr_le word from)

  pub one_from_passed : EachPlace word 0 from (one_from word from)
  one_from_passed i late before =
      let at : from + (i - from) ≡ i = omega arith in
      sym (bit_at_shr word from (i - from) ∙ ap (bit_at word) at) ∙ trailing_clear (word / 2 ^ from) rest_fits (i - from) (omega arith)

  pub one_from_found : one_from word from < 64 → bit_at word (one_from word from) ≡ 1
  one_from_found inside =
      let at : one_from word from ≡ from + trailing_zeros w64 (word / 2 ^ from) = omega arith in
      ap (bit_at word) at ∙ sym (bit_at_shr word from (trailing_zeros w64 (word / 2 ^ from))) ∙ trailing_set (word / 2 ^ from) rest_fits (omega arith)

-- a run of ones

module _ (low high : ℕ) (some : low < high) (in_word : high ≤ 64) where
  abbrev pub run : ℕ
  run = bit_and (18446744073709551615 * 2 ^ low % 18446744073709551616) (18446744073709551615 / 2 ^ (64 - high))

  run_is : run ≡ bit_and (2 ^ 64 - 2 ^ low) (2 ^ high - 1)
  run_is =
      let whole : 64 - (64 - high) ≡ high = omega arith in
      ap (λ m. bit_and m (18446744073709551615 / 2 ^ (64 - high))) (ones_shl 64 low (omega arith))
      ∙ ap (bit_and (2 ^ 64 - 2 ^ low)) (ones_shr 64 (64 - high) (omega arith) ∙ ap (λ k. 2 ^ k - 1) whole)

  at_run : (i : ℕ) → bit_at run i ≡ min (bit_at (2 ^ 64 - 2 ^ low) i) (bit_at (2 ^ high - 1) i)
  at_run i = ap (λ m. bit_at m i) run_is ∙ bit_at_and (2 ^ 64 - 2 ^ low) (2 ^ high - 1) i

  pub run_below : EachPlace run 0 0 low
  run_below i _ before = omega (arith, at_run i, bit_at_mask_below low 64 i before)

  pub run_inside : EachPlace run 1 low high
  run_inside i late before = omega (arith, at_run i, bit_at_mask_inside low 64 i late (omega arith), bit_at_ones high i before)

  pub run_above : EachPlace run 0 high 64
  run_above i late _ = omega (arith, at_run i, bit_at_ones_above high i late)
