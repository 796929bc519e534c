use Rattle.std.proofs.Common.{◌≡◌}
use Rattle.model.specs.Lowest.{lowest}
use Rattle.marker.specs.Markings.{on}
use Rattle.marker.specs.Verdicts.{spot, seconds}
use Rattle.marker.proofs.marking.fn.Marking.first_break.find_map.Given as goal

abbrev pub ensures : goal.ensures
ensures g l r = r ≡ lowest (on l.self.entry.now spot l.rule l.x) (on l.self.entry.now seconds l.rule l.x)
