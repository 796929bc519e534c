use Rattle.std.proofs.Common.{◌-◌, ◌≤◌}
use Rattle.timetable.specs.Bits.{AreRuns}
use Rattle.timetable.proofs.runs.run_starts.Given as goal

abbrev pub invariant-loop-length : goal.invariant-loop-length
invariant-loop-length l = record { some : 1 ≤ l.length; in_word : l.length ≤ l.count; runs : AreRuns l.word l.starts l.length }

abbrev pub decreases-loop-length : goal.decreases-loop-length
decreases-loop-length l = l.count - l.length
