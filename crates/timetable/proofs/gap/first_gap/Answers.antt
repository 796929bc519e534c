use Rattle.std.proofs.Common.{◌≡◌, ◌+◌, ◌*◌, ◌/◌, get_or, arith}
use Rattle.timetable.specs.Bits.{EachBit, EachPlace}
use Rattle.timetable.proofs.Scans.{scanned}
use Rattle.timetable.proofs.WordSteps.{passed_word, clear_word}
use Rattle.timetable.proofs.gap.first_gap.Goals as goal
use Rattle.timetable.proofs.gap.first_gap.Goals.{then-one-lt-WORD+else-place-count-le-WORD, else-one-lt-WORD}

pub returns-then-start-count-clause-found : goal.returns-then-start-count-clause-found
returns-then-start-count-clause-found c =
    let words = c.args.words.now in
    let at = c.loop-at.at in
    let start = c.loop-at.start in
    let one = c.first_one-one in
    let clear : EachBit words 0 start (64 * (at / 64) + one.result) = scanned words 0 start at one.result one.ensures.in_word c.loop-at.invariant.clear one.ensures.passed in
    record {
      late_enough = c.loop-at.invariant.late_enough;
      in_time = omega arith;
      clear = λ t late before. clear t late (omega arith);
      not_before = c.loop-at.invariant.passed;
    }

pub returns-then-place-count-le-WORD-clause-found : goal.returns-then-place-count-le-WORD-clause-found
returns-then-place-count-le-WORD-clause-found c =
    let words = c.args.words.now in
    let at = c.loop-at.at in
    let start = c.loop-at.start in
    let count = c.args.count in
    let one = c.first_one-one in
    let place = c.next_gap-place in
    let clear : EachPlace (get_or words (at / 64) 0) 0 place.result (place.result + count) = λ i late before. place.ensures.clear i late (omega arith) in
    let gap = clear_word words at place.result (place.result + count) (omega arith) clear in
    record {
      late_enough = omega arith;
      in_time = omega arith;
      clear = λ t late before. gap t late (omega arith);
      not_before = passed_word words c.args.from start at count one.result place.result (omega (arith, c.type_inv.words (at / 64))) c.loop-at.invariant.order c.if-one-lt-WORD.true (omega arith) (one.ensures.found c.if-one-lt-WORD.true) place.ensures.within c.loop-at.invariant.passed place.ensures.passed;
    }

pub loop-at-preserved : goal.loop-at-preserved
loop-at-preserved c =
    let words = c.args.words.now in
    let at = c.loop-at.at in
    let start = c.loop-at.start in
    let count = c.args.count in
    let one = c.first_one-one in
    elim c.if-one-lt-WORD.branch [
      | then-one-lt-WORD+else-place-count-le-WORD w ↦ (
          let place = w.next_gap-place in
          let next : c.if-one-lt-WORD.start ≡ 64 * (at / 64) + place.result = w.start-is in
          let clear : EachPlace (get_or words (at / 64) 0) 0 place.result 64 = λ i late before. place.ensures.clear i late (omega arith) in
          let gap = clear_word words at place.result 64 (omega arith) clear in
          let passed = passed_word words c.args.from start at count one.result place.result (omega (arith, c.type_inv.words (at / 64))) c.loop-at.invariant.order w.if-one-lt-WORD.true (omega arith) (one.ensures.found w.if-one-lt-WORD.true) place.ensures.within c.loop-at.invariant.passed place.ensures.passed in
          record {
            late_enough = omega arith;
            order = omega arith;
            in_time = omega arith;
            short = omega arith;
            clear = λ t late before. gap t (omega arith) before;
            passed = λ k late before. passed k late (omega arith);
          }
          )
      | else-one-lt-WORD w ↦ (
          let next : c.if-one-lt-WORD.start ≡ start = w.start-is in
          let clear = scanned words 0 start at one.result one.ensures.in_word c.loop-at.invariant.clear one.ensures.passed in
          record {
            late_enough = omega arith;
            order = omega arith;
            in_time = omega arith;
            short = omega arith;
            clear = λ t late before. clear t (omega arith) (omega arith);
            passed = λ k late before. c.loop-at.invariant.passed k late (omega arith);
          }
          )
    ]
