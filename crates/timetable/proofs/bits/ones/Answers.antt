use Rattle.timetable.proofs.Words.{run_below, run_inside, run_above}
use Rattle.timetable.proofs.bits.ones.Goals as goal

pub returns : goal.returns
returns c =
    let low = c.args.low in
    let high = c.args.high in
    let some = c.requires.some in
    let in_word = c.requires.in_word in
    record {
      below = run_below low high some in_word;
      inside = run_inside low high some in_word;
      above = run_above low high some in_word;
    }
