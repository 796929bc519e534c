use Rattle.std.proofs.Common.{◌≡◌, drop}
use Rattle.routes.specs.Legs.{legs}
use Rattle.routes.specs.RoutedPlans.{on}
use Rattle.planner.specs.OrderParts.{place_after}
use Rattle.planner.proofs.order.bookings.after_legs.Given as goal

abbrev pub invariant-loop-k : goal.invariant-loop-k
invariant-loop-k g l =
    let bs = (g.T.Askable.meaning l.table).bookings in
    place_after bs l.place (drop l.k (on l.routed legs l.i)) ≡ place_after bs l.fn.place (on l.routed legs l.i)
