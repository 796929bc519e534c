use Rattle.std.proofs.Common.{arith}
use Rattle.timetable.proofs.Words.{trailing_clear, trailing_set}
use Rattle.timetable.proofs.WordRuns.{past_word}
use Rattle.timetable.proofs.runs.first_run.Goals as goal

pub returns-then-count-gt-WORD-clause-passed : goal.returns-then-count-gt-WORD-clause-passed
returns-then-count-gt-WORD-clause-passed c = λ i before. past_word c.args.word i c.args.count (omega arith) before (omega arith)

pub returns-clause-passed : goal.returns-clause-passed
returns-clause-passed c = λ i before. c.run_starts.ensures.broken i (trailing_clear c.run_starts.result (omega arith) i before)

pub returns-clause-found : goal.returns-clause-found
returns-clause-found c = λ inside. c.run_starts.ensures.whole _ (trailing_set c.run_starts.result (omega arith) inside)
