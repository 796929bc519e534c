use Rattle.std.proofs.Common.{◌==◌, ◌<◌, false, length, sym, ap, ◌∙◌, arith}
use Rattle.std.specs.List.{flat_map}
use Rattle.std.specs.Option.{option_map_or}
use Rattle.routes.specs.RoutedPlans.{on}
use Rattle.planner.specs.Bookings.{step_bookings, plan_bookings}
use Rattle.planner.specs.OrderParts.{place_after}
use Rattle.planner.proofs.OrderBookings.{element_stands, element_missing, all_stand, same_from}
use Rattle.planner.proofs.order.bookings.are_booked.Goals as goal

pub loop-task-init : goal.loop-task-init
loop-task-init g c =
    ap (λ ts. place_after (g.T.Askable.meaning c.args.table.now).bookings 0 (flat_map (on c.args.routed.now step_bookings) ts)) c.steps-task-items.ensures.value

pub returns-in_default : goal.returns-in_default
returns-in_default g c =
    let ts = c.steps-task-items.result.now in
    let i = c.loop-task.task-index in
    let bs = (g.T.Askable.meaning c.args.table.now).bookings in
    let within : i < length ts = omega arith in
    ap (λ o. option_map_or (λ j. j == length bs) o false) (element_missing (on c.args.routed.now step_bookings) bs ts 0 i within c.loop-task.place _ c.in_default.ensures c.loop-task.invariant)
    ∙ sym (same_from bs 0 (on c.args.routed.now plan_bookings) (omega arith))

pub loop-task-preserved : goal.loop-task-preserved
loop-task-preserved g c =
    let ts = c.steps-task-items.result.now in
    let i = c.loop-task.task-index in
    let within : i < length ts = omega arith in
    element_stands (on c.args.routed.now step_bookings) (g.T.Askable.meaning c.args.table.now).bookings ts 0 i within c.loop-task.place c.in-Some.next _ c.in-Some.ensures c.loop-task.invariant

pub returns : goal.returns
returns g c =
    let ts = c.steps-task-items.result.now in
    let bs = (g.T.Askable.meaning c.args.table.now).bookings in
    ap (λ n. c.loop-task.place == n) c.count.ensures
    ∙ ap (λ o. option_map_or (λ j. j == length bs) o false) (all_stand (on c.args.routed.now step_bookings) bs ts c.loop-task.task-index c.loop-task.place _ (omega arith) c.loop-task.invariant)
    ∙ sym (same_from bs 0 (on c.args.routed.now plan_bookings) (omega arith))
