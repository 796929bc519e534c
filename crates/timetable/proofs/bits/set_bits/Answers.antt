use Rattle.std.proofs.Common.{◌/◌, ◌%◌, ◌<◌, ◌≤◌, get_or, bit_or, arith}
use Rattle.timetable.proofs.Writes.{IsMasked, masked_or, written_more}
use Rattle.timetable.proofs.bits.set_bits.Goals as goal

pub loop-at-preserved : goal.loop-at-preserved
loop-at-preserved c =
    let words = c.loop-at.words in
    let at = c.loop-at.at in
    let word = get_or words (at / 64) 0 in
    let low = at % 64 in
    let high = c.min-high.result in
    let in_word : high ≤ 64 = omega arith in
    let some : low < high = omega arith in
    let new = bit_or word c.ones.result in
    let masked : IsMasked word new 1 low high = masked_or word c.ones.result low high in_word some c.ones.ensures.below c.ones.ensures.inside c.ones.ensures.above in
    record {
      late_enough = omega arith;
      in_time = omega arith;
      written = written_more c.args.words.now words 1 c.args.from at high new c.loop-at.invariant.late_enough (omega arith) masked in_word some c.loop-at.invariant.written;
    }
