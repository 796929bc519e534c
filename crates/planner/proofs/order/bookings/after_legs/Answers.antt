use Rattle.std.proofs.Common.{sym, ◌∙◌}
use Rattle.routes.specs.Legs.{legs}
use Rattle.routes.specs.RoutedPlans.{on}
use Rattle.planner.proofs.OrderBookings.{one_stands, one_missing}
use Rattle.planner.proofs.order.bookings.after_legs.Goals as goal

pub loop-k-preserved : goal.loop-k-preserved
loop-k-preserved g c =
    one_stands (g.T.Askable.meaning c.args.table.now).bookings (on c.args.routed.now legs c.args.i) c.loop-k.k c.in_ok-leg.leg c.loop-k.place c.in_ok-place.place _ (sym c.in_ok-leg.ensures) c.in_ok-place.ensures c.loop-k.invariant

pub returns-in_err-place : goal.returns-in_err-place
returns-in_err-place g c =
    c.from_residual-in_err-place.ensures
    ∙ one_missing (g.T.Askable.meaning c.args.table.now).bookings (on c.args.routed.now legs c.args.i) c.loop-k.k c.in_ok-leg.leg c.loop-k.place _ (sym c.in_ok-leg.ensures) c.in_err-place.ensures c.loop-k.invariant
