use Rattle.std.proofs.Common.{◌<◌, ◌^◌, arith}
use Rattle.timetable.proofs.WordRuns.{last_clear}
use Rattle.timetable.proofs.WordGaps.{run_within, run_clear, run_passed, last_behind, last_passed}
use Rattle.timetable.proofs.runs.next_gap.Goals as goal

pub returns-then-run-lt-WORD : goal.returns-then-run-lt-WORD
returns-then-run-lt-WORD c =
    let word = c.args.word in
    let one = c.args.one in
    let count = c.args.count in
    let run = c.first_run-run in
    let fits : word < 2 ^ 64 = omega arith in
    let in_word = c.requires.in_word in
    let some = c.requires.some in
    let found = run.ensures.found c.if-run-lt-WORD.true in
    record {
      behind = omega arith;
      within = omega (arith, run_within word one count fits in_word some run.result found);
      passed = run_passed word one count fits in_word some run.result found run.ensures.passed;
      clear = run_clear word one count fits in_word some run.result found;
    }

pub returns-else-run-lt-WORD : goal.returns-else-run-lt-WORD
returns-else-run-lt-WORD c =
    let word = c.args.word in
    let one = c.args.one in
    let count = c.args.count in
    let fits : word < 2 ^ 64 = omega arith in
    let in_word = c.requires.in_word in
    let passed = c.first_run-run.ensures.passed in
    record {
      behind = omega (arith, last_behind word one count fits in_word c.requires.is_one);
      within = omega arith;
      passed = last_passed word one count fits in_word c.requires.is_one (λ i before. passed i (omega arith));
      clear = λ i late before. last_clear word fits i late (omega arith);
    }
