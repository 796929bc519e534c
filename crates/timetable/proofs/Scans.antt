-- Bits of a row of words that are read a word at a time.
use Rattle.std.proofs.Common.{◌≡◌, ℕ, ◌+◌, ◌-◌, ◌*◌, ◌/◌, ◌%◌, ◌<◌, ◌≤◌, List, get_or, ap, ◌∙◌, ⊎_elim, arith}
use Rattle.std.specs.Int.{bit_at}
use Rattle.std.proofs.lemmas.Bool.{cases_lt}
use Rattle.timetable.specs.Bits.{bit_of, EachBit, EachPlace}

-- a bit by its word and its place there
pub bit_in : (words : List ℕ) (k t : ℕ) → 64 * k ≤ t → t < 64 * k + 64 → bit_of words t ≡ bit_at (get_or words k 0) (t - 64 * k)
unfolding bit_of
bit_in words k t late before =
    let word : t / 64 ≡ k = omega arith in
    let place : t % 64 ≡ t - 64 * k = omega arith in
    ap (λ j. bit_at (get_or words j 0) (t % 64)) word ∙ ap (bit_at (get_or words k 0)) place

module _ (words : List ℕ) (v from at place : ℕ) (inside : place ≤ 64) where
  -- what was read of the word is what was read of the row
  pub scanned : EachBit words v from at → EachPlace (get_or words (at / 64) 0) v (at % 64) place → EachBit words v from (64 * (at / 64) + place)
  scanned before here t late sooner =
      ⊎_elim (λ already. before t late already)
      (λ now. bit_in words (at / 64) t (omega arith) (omega arith) ∙ here (t - 64 * (at / 64)) (omega arith) (omega arith))
      (cases_lt t at)

pub found_in : (words : List ℕ) (v at place : ℕ) → place < 64 → bit_at (get_or words (at / 64) 0) place ≡ v → bit_of words (64 * (at / 64) + place) ≡ v
found_in words v at place inside here =
    let same : 64 * (at / 64) + place - 64 * (at / 64) ≡ place = omega arith in
    bit_in words (at / 64) (64 * (at / 64) + place) (omega arith) (omega arith) ∙ ap (bit_at (get_or words (at / 64) 0)) same ∙ here
