use Rattle.std.proofs.Common.{◌≡◌}
use Rattle.std.specs.List.{slice_get}
use Rattle.routes.specs.Legs.{legs}
use Rattle.routes.specs.RoutedPlans.{on}
use Rattle.marker.proofs.legs.fn.leg_row.from_fn.Given as goal

abbrev pub ensures : goal.ensures
ensures g l r = r ≡ slice_get (on l.plan.entry.now legs l.i) l.k
