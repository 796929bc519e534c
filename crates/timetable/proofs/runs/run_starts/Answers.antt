use Rattle.std.proofs.Common.{arith}
use Rattle.timetable.proofs.WordRuns.{runs_more}
use Rattle.timetable.proofs.runs.run_starts.Goals as goal

pub loop-length-preserved : goal.loop-length-preserved
loop-length-preserved c = record {
  some = omega arith;
  in_word = omega arith;
  runs = runs_more c.args.word c.loop-length.starts c.loop-length.length c.min-more.result (omega arith) c.loop-length.invariant.runs;
}
