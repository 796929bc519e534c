-- The first gap in the bits of a resource is its earliest start.
use Rattle.std.proofs.Common.{◌≡◌, ℕ, ◌+◌, ◌-◌, ◌*◌, ◌<◌, ◌≤◌, false, List, Some, None, subst, ⊎_elim, arith}
use Rattle.std.proofs.lemmas.Bool.{cases_lt}
use Rattle.timetable.specs.Bits.{EachBit, HasSetBit, IsFirstGap}
use Rattle.timetable.specs.Earliest.{earliest}
use Rattle.timetable.specs.Marks.{AreMarked}
use Rattle.timetable.specs.Tables.{Table, free}
use Rattle.timetable.proofs.Earliests.{words_first, words_none}
use Rattle.timetable.proofs.Finding.{free_clear, not_free_taken, not_free_late}
use Rattle.timetable.proofs.Marked.{clear_bits_untaken, set_bit_taken}

module _ (T : Table) (words : List ℕ) (w : ℕ) (marked : AreMarked words w T.bookings) (long : T.horizon ≡ 64 * w) (r from d base e : ℕ) (known : r < 48) (first : base ≡ 64 * (r * w)) (last : e ≡ base + T.horizon) where
  -- where one of the bits from a place on is set, the resource is not free
  not_free_set : (k : ℕ) → k + d ≤ T.horizon → HasSetBit words (base + k) d → free T r k d ≡ false
  not_free_set k in_time has =
      not_free_taken T r k d (set_bit_taken words w T.bookings marked r k d known (omega arith) (subst (λ b. HasSetBit words (b + k) d) first has))

  pub gap_is_earliest : (g : ℕ) → 1 ≤ d → IsFirstGap words (base + from) e d g → earliest T r from d ≡ Some (g - base)
  gap_is_earliest g some gap =
      let s = g - base in
      let clear : EachBit words 0 (64 * (r * w) + s) (64 * (r * w) + s + d) = λ t late before. gap.clear t (omega (arith, gap.late_enough)) (omega (arith, gap.late_enough)) in
      let in_time : s + d ≤ T.horizon = omega (arith, gap.late_enough, gap.in_time) in
      words_first T r d from s (record {
        late_enough = omega (arith, gap.late_enough);
        free_there = free_clear T r s d some in_time (omega arith) (clear_bits_untaken words w T.bookings marked r s d known (omega arith) clear);
        not_before = λ k late before. not_free_set k (omega arith) (gap.not_before (base + k) (omega arith) (omega (arith, gap.late_enough)));
      })

  pub no_gap : ((k : ℕ) → base + from ≤ k → k + d ≤ e → HasSetBit words k d) → earliest T r from d ≡ None
  no_gap none =
      words_none T r d from (λ s late.
      ⊎_elim (λ past. not_free_late T r s d past) (λ in_time. not_free_set s in_time (none (base + s) (omega arith) (omega arith))) (cases_lt T.horizon (s + d)))
