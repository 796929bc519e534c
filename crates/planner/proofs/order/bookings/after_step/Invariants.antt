-- The edges into the task from the one at hand on give the whole.
use Rattle.std.proofs.Common.{◌≡◌}
use Rattle.std.specs.List.{flat_map}
use Rattle.model.specs.Data.{job_of}
use Rattle.routes.specs.Legs.{legs}
use Rattle.routes.specs.RoutedPlans.{on}
use Rattle.planner.specs.Edges.{incoming}
use Rattle.planner.specs.OrderParts.{place_after}
use Rattle.planner.proofs.Chaining.{rest, LeadsTo, to_go}
use Rattle.planner.proofs.order.bookings.after_step.Given as goal

abbrev pub invariant-loop-next : goal.invariant-loop-next
invariant-loop-next g l =
    let bs = (g.T.Askable.meaning l.table).bookings in
    let J = job_of l.routed.job.now in
    record {
      so_far : place_after bs l.place (flat_map (λ (i, e). on l.routed legs i) (rest J.edges l.task l.next)) ≡ place_after bs l.fn.place (flat_map (λ (i, e). on l.routed legs i) (incoming J l.task));
      leads : LeadsTo J.edges l.task 0 l.next;
    }

abbrev pub decreases-loop-next : goal.decreases-loop-next
decreases-loop-next g l = to_go (job_of l.routed.job.now).edges l.next
