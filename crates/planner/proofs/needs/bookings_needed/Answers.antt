use Rattle.std.proofs.Common.{◌≡◌, ◌+◌, ◌<◌, ◌≤◌, length, get_or, sym, ap, subst, arith}
use Rattle.model.specs.Data.{job_of, net_of}
use Rattle.model.specs.Plans.{plan_of}
use Rattle.model.proofs.Jobs.{of_job}
use Rattle.planner.proofs.EdgesIn.{no_edge}
use Rattle.planner.proofs.NeedLoop.{counting_begins, counting_at, ended, passes, lowest, counts_on}
use Rattle.planner.proofs.Needed.{hops_short}
use Rattle.planner.proofs.needs.bookings_needed.Goals as goal
use Rattle.planner.proofs.needs.bookings_needed.Goals.{then-edge-task+in-Some, else-edge-task}

pub loop-i-init : goal.loop-i-init
loop-i-init g c = counting_begins (job_of c.args.routed.now.job.now) (g.R.Routes.route c.args.routed.now.routes.now) (plan_of c.args.routed.now.plan.now) c.args.task c.args.machine

pub returns-in_default : goal.returns-in_default
returns-in_default g c =
    let p = c.args.routed.now in
    let J = job_of p.job.now in
    let es = c.edges-edge-items.result.now in
    let i = c.loop-i.i in
    let e = get_or es i no_edge in
    let within : i < length J.edges = subst (λ l. i < length l) c.edges-edge-items.ensures c.loop-i-test.true in
    let at : get_or J.edges i no_edge ≡ e = sym (ap (λ l. get_or l i no_edge) c.edges-edge-items.ensures) in
    lowest J (g.R.Routes.route p.routes.now) (plan_of p.plan.now) c.args.task c.args.machine i c.loop-i.needed c.loop-i.invariant e within at c.if-edge-task.true c.in_default.ensures

pub overflow_add-needed : goal.overflow_add-needed
overflow_add-needed g c =
    let p = c.args.routed.now in
    let J = job_of p.job.now in
    let i = c.loop-i.i in
    let e = get_or c.edges-edge-items.result.now i no_edge in
    let within : i < length J.edges = subst (λ l. i < length l) c.edges-edge-items.ensures c.loop-i-test.true in
    let short = hops_short (net_of (g.R.Routes.over p.routes.now)) (g.R.Routes.route p.routes.now) p.keeps (plan_of p.plan.now) c.args.machine e c.in-Some.hops c.in-Some.ensures in
    omega (arith, c.loop-i.invariant.few, within, short, (of_job p.job.now).few_edges)

pub loop-i-preserved : goal.loop-i-preserved
loop-i-preserved g c =
    let p = c.args.routed.now in
    let J = job_of p.job.now in
    let ρ = g.R.Routes.route p.routes.now in
    let P = plan_of p.plan.now in
    let t = c.args.task in
    let m = c.args.machine in
    let es = c.edges-edge-items.result.now in
    let i = c.loop-i.i in
    let n = c.loop-i.needed in
    let u = c.loop-i.invariant in
    let e = get_or es i no_edge in
    let within : i < length J.edges = subst (λ l. i < length l) c.edges-edge-items.ensures c.loop-i-test.true in
    let at : get_or J.edges i no_edge ≡ e = sym (ap (λ l. get_or l i no_edge) c.edges-edge-items.ensures) in
    elim c.if-edge-task.branch [
      | then-edge-task+in-Some w ↦ (
          let k = w.in-Some.hops in
          let short = hops_short (net_of (g.R.Routes.over p.routes.now)) ρ p.keeps P m e k w.in-Some.ensures in
          counting_at J ρ P t m (i + 1) _ _ w.needed-is (counts_on J ρ P t m i n u e within at w.if-edge-task.true k w.in-Some.ensures short))
      | else-edge-task w ↦ counting_at J ρ P t m (i + 1) _ _ w.needed-is (passes J ρ P t m i n u e within at w.if-edge-task.false)
    ]

pub returns : goal.returns
returns g c =
    let p = c.args.routed.now in
    let J = job_of p.job.now in
    let i = c.loop-i.i in
    ended J (g.R.Routes.route p.routes.now) (plan_of p.plan.now) c.args.task c.args.machine i c.loop-i.needed c.loop-i.invariant (subst (λ l. length l ≤ i) c.edges-edge-items.ensures c.loop-i-test.false)
