use Rattle.std.proofs.Common.{◌-◌, ◌≤◌}
use Rattle.timetable.specs.Bits.{IsWritten}
use Rattle.timetable.proofs.bits.set_bits.Given as goal

abbrev pub invariant-loop-at : goal.invariant-loop-at
invariant-loop-at l = record { late_enough : l.from ≤ l.at; in_time : l.at ≤ l.end; written : IsWritten l.fn.words l.words 1 l.from l.at }

abbrev pub decreases-loop-at : goal.decreases-loop-at
decreases-loop-at l = l.end - l.at
