use Rattle.std.proofs.Common.{◌≡◌, ◌+◌}
use Rattle.timetable.specs.Tables.{span}
use Rattle.timetable.proofs.Passes.{Passed}
use Rattle.timetable.proofs.by_start.ByStart.first_clear.Given as goal

abbrev pub invariant-loop-b : goal.invariant-loop-b
invariant-loop-b l = record {
  same : l.wanted ≡ span l.fn.wanted.resource l.wanted.start l.fn.wanted.length;
  passed : Passed l.self.list.items l.fn.wanted.resource l.fn.wanted.length l.fn.wanted.start (l.first + l.b-index) l.wanted.start;
}
