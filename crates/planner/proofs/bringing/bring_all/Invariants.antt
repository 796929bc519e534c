use Rattle.model.specs.Data.{job_of, net_of}
use Rattle.model.specs.Plans.{plan_of}
use Rattle.planner.specs.Booked.{brought_so}
use Rattle.planner.specs.Edges.{incoming}
use Rattle.planner.specs.Placing.{bring_all}
use Rattle.planner.proofs.EdgesIn.{Bringing}
use Rattle.planner.proofs.bringing.bring_all.Given as goal

abbrev pub invariant-loop-i : goal.invariant-loop-i
invariant-loop-i g l =
    let J = job_of l.job in
    let N = net_of (g.R.Routes.over l.routes) in
    let ρ = g.R.Routes.route l.routes in
    let P = plan_of l.initial.plan in
    let A = g.T.Askable.meaning l.initial.table in
    Bringing J N ρ l.task l.machine P A (bring_all J N ρ l.machine (incoming J l.task) (brought_so P A 0))
    l.i (plan_of l.plan) (g.T.Askable.meaning l.table) l.ready
