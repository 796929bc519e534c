use Rattle.std.proofs.Common.{◌≡◌}
use Rattle.marker.specs.Markings.{on}
use Rattle.marker.specs.Verdicts.{test}
use Rattle.marker.proofs.marking.fn.Marking.break_at.find.Given as goal

abbrev pub ensures : goal.ensures
ensures g l r = r ≡ on l.self.entry.now test l.rule l.x l.y.entry.now
