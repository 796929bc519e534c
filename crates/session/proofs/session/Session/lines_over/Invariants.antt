use Rattle.std.proofs.Common.{◌≡◌, length}
use Rattle.std.specs.Io.KnownBytes.{append_known, Appends}
use Rattle.session.specs.Drawings.{beginning, followed}
use Rattle.session.specs.Going.{progress_of}
use Rattle.session.specs.Makings.{on}
use Rattle.session.specs.Statements.{to_come}
use Rattle.session.proofs.session.Session.lines_over.Given as goal

abbrev pub invariant-loop-said : goal.invariant-loop-said
invariant-loop-said g l =
    let rest = on l.made followed in
    (l.self.out.ghost_name ≡ l.initial.self.out.ghost_name)
    × Appends (g.W.Write.contents l.initial.self.out.now) (append_known (g.W.Write.contents l.self.out.now) (rest (progress_of g.T.Askable.meaning l.sheet l.work) (to_come l.self.reader)))
    (rest (beginning (g.T.Askable.meaning l.fn.table)) (to_come l.initial.self.reader))

abbrev pub decreases-loop-said : goal.decreases-loop-said
decreases-loop-said g l = length (to_come l.self.reader)
