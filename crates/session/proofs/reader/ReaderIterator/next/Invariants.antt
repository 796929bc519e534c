use Rattle.std.proofs.Common.{◌≡◌, ◌≤◌, None, length}
use Rattle.script.specs.Lines.{lines_left}
use Rattle.session.specs.Statements.{unread, to_come}
use Rattle.session.proofs.reader.ReaderIterator.next.Given as goal

abbrev pub invariant-loop-bytes : goal.invariant-loop-bytes
invariant-loop-bytes l = record {
  none_back : l.self.handed_back ≡ None;
  so_far : unread l.self ≡ to_come l.fn.self;
  fewer : length (lines_left l.self.lines) ≤ length (lines_left l.fn.self.lines);
}

abbrev pub decreases-loop-bytes : goal.decreases-loop-bytes
decreases-loop-bytes l = length (lines_left l.self.lines)
