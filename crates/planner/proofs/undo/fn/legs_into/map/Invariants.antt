use Rattle.std.proofs.Common.{◌≡◌, length}
use Rattle.routes.specs.Legs.{legs}
use Rattle.routes.specs.RoutedPlans.{on}
use Rattle.planner.proofs.undo.fn.legs_into.map.Given as goal

abbrev pub ensures : goal.ensures
ensures g l r = r ≡ length (on l.routed.entry.now legs l.i)
