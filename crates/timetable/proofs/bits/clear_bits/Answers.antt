use Rattle.std.proofs.Common.{◌-◌, ◌/◌, ◌%◌, ◌<◌, ◌≤◌, get_or, bit_and, arith}
use Rattle.timetable.proofs.Writes.{IsMasked, masked_and_not, written_more}
use Rattle.timetable.proofs.bits.clear_bits.Goals as goal

pub loop-at-preserved : goal.loop-at-preserved
loop-at-preserved c =
    let words = c.loop-at.words in
    let at = c.loop-at.at in
    let word = get_or words (at / 64) 0 in
    let low = at % 64 in
    let high = c.min-high.result in
    let in_word : high ≤ 64 = omega arith in
    let some : low < high = omega arith in
    let new = bit_and word (18446744073709551615 - c.ones.result) in
    let masked : IsMasked word new 0 low high = masked_and_not word c.ones.result low high in_word some c.ones.ensures.below c.ones.ensures.inside c.ones.ensures.above (omega arith) in
    record {
      late_enough = omega arith;
      in_time = omega arith;
      written = written_more c.args.words.now words 0 c.args.from at high new c.loop-at.invariant.late_enough (omega arith) masked in_word some c.loop-at.invariant.written;
    }
