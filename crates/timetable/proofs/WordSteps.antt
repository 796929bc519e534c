-- What one word adds to the search for a run of clear bits.
use Rattle.std.proofs.Common.{◌≡◌, ℕ, ◌+◌, ◌-◌, ◌*◌, ◌/◌, ◌^◌, ◌<◌, ◌≤◌, List, get_or, ap, ◌∙◌, ⊎_elim, arith}
use Rattle.std.specs.Int.{bit_at}
use Rattle.std.proofs.lemmas.Bool.{cases_lt}
use Rattle.std.proofs.lemmas.Nat.Bits.{bit_at_above}
use Rattle.timetable.specs.Bits.{bit_of, EachBit, EachPlace, HasSetBit, HasPlace}
use Rattle.timetable.proofs.Scans.{bit_in, found_in}

-- the word of bit `at` has a one at a place behind it, and from `start` on too few bits are clear before that
module _ (words : List ℕ) (from start at count one place : ℕ) (fits : get_or words (at / 64) 0 < 2 ^ 64) (order : start ≤ at) (in_word : one < 64) (short : 64 * (at / 64) + one < start + count)
    (is_one : bit_at (get_or words (at / 64) 0) one ≡ 1) (within : place ≤ 64)
  where
    -- then no gap begins before the next one in the word
    pub passed_word :
        ((k : ℕ) → from ≤ k → k < start → HasSetBit words k count)
        → ((i : ℕ) → one ≤ i → i < place → HasPlace (get_or words (at / 64) 0) 1 i count)
        → (k : ℕ) → from ≤ k → k < 64 * (at / 64) + place → HasSetBit words k count
    passed_word before here k late sooner =
        let first = 64 * (at / 64) in
        ⊎_elim (λ already. before k late already)
        (λ now.
        ⊎_elim
        (λ behind.
        let h = here (k - first) (omega arith) (omega arith) in
        ⊎_elim
        (λ inside.
        let at_place : first + h.0 - first ≡ h.0 = omega arith in
        let set : bit_of words (first + h.0) ≡ 1 = bit_in words (at / 64) (first + h.0) (omega arith) (omega arith) ∙ ap (bit_at (get_or words (at / 64) 0)) at_place ∙ h.3 in
        (first + h.0, omega (arith, h.1), omega (arith, h.2), set))
        (λ past. absurd (omega (arith, h.3, bit_at_above (get_or words (at / 64) 0) 64 h.0 fits past)))
        (cases_lt h.0 64))
        (λ not_behind. (first + one, not_behind, omega arith, found_in words 1 at one in_word is_one))
        (cases_lt (first + one) k))
        (cases_lt k start)

pub clear_word : (words : List ℕ) (at place e : ℕ) → e ≤ 64 → EachPlace (get_or words (at / 64) 0) 0 place e → EachBit words 0 (64 * (at / 64) + place) (64 * (at / 64) + e)
clear_word words at place e within clear t late before =
    bit_in words (at / 64) t (omega arith) (omega arith) ∙ clear (t - 64 * (at / 64)) (omega arith) (omega arith)
