use Rattle.std.proofs.Common.{◌≡◌}
use Rattle.model.specs.Plans.{starts}
use Rattle.routes.specs.Legs.{way}
use Rattle.routes.specs.RoutedPlans.{on}
use Rattle.planner.specs.Order.{start_for_each}
use Rattle.planner.proofs.order.edges.fn.keeps_routes.all.Given as goal

abbrev pub ensures : goal.ensures
ensures g l r = r ≡ on l.routed.entry.now (λ J N ρ P. start_for_each (way ρ P l.edge.entry.now) (starts P l.i))
