use Rattle.std.proofs.Common.{◌≡◌, drop}
use Rattle.std.specs.List.{flat_map}
use Rattle.routes.specs.RoutedPlans.{on}
use Rattle.planner.specs.Bookings.{step_bookings, plan_bookings}
use Rattle.planner.specs.OrderParts.{place_after}
use Rattle.planner.proofs.order.bookings.are_booked.Given as goal

abbrev pub invariant-loop-task : goal.invariant-loop-task
invariant-loop-task g l =
    let bs = (g.T.Askable.meaning l.table).bookings in
    place_after bs l.place (flat_map (on l.routed step_bookings) (drop l.task-index l.task-items)) ≡ place_after bs 0 (on l.routed plan_bookings)
