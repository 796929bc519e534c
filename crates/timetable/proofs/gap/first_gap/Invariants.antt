use Rattle.std.proofs.Common.{◌-◌, ◌<◌, ◌≤◌, ◌+◌, ℕ}
use Rattle.timetable.specs.Bits.{EachBit, HasSetBit}
use Rattle.timetable.proofs.gap.first_gap.Given as goal

-- no gap begins before `start`, and the bits from there up to `at` are clear, but fewer than are asked for
abbrev pub invariant-loop-at : goal.invariant-loop-at
invariant-loop-at l = record {
  late_enough : l.from ≤ l.start;
  order : l.start ≤ l.at;
  in_time : l.at ≤ l.end;
  short : l.at < l.start + l.count;
  clear : EachBit l.words 0 l.start l.at;
  passed : (k : ℕ) → l.from ≤ k → k < l.start → HasSetBit l.words k l.count;
}

abbrev pub decreases-loop-at : goal.decreases-loop-at
decreases-loop-at l = l.end - l.at
