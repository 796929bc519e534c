use Rattle.std.proofs.Common.{◌≡◌}
use Rattle.marker.specs.Markings.{on}
use Rattle.marker.specs.Verdicts.{search_rule}
use Rattle.marker.proofs.search.fn.mark.find_map.Given as goal

abbrev pub ensures : goal.ensures
ensures g l r = r ≡ on l.marking.entry search_rule l.rule.entry.now
