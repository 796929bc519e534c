use Rattle.std.proofs.Common.{◌≡◌, ◌+◌, ◌-◌, ◌<◌, ◌≤◌, length, refl, ap, subst, arith}
use Rattle.model.specs.Data.{job_of}
use Rattle.model.proofs.Jobs.{of_job}
use Rattle.planner.specs.EdgeChains.{Chained}
use Rattle.planner.proofs.Chaining.{goal_known, ChainedFrom, none_chained, one_more, all_chained}
use Rattle.planner.proofs.order.chains.EdgeChains.of.Goals as goal

pub loop-i-init : goal.loop-i-init
loop-i-init c = none_chained c.edges-edges.result.now _ refl

pub offset_bounds-first-goal : goal.offset_bounds-first-goal
offset_bounds-first-goal c =
    let known = goal_known (job_of c.args.job.now).works (job_of c.args.job.now).edges c.edges-edges.result.now (c.loop-i.i - 1) (of_job c.args.job.now) c.edges-edges.ensures (omega arith) in
    omega (arith, known)

pub bounds-first-goal : goal.bounds-first-goal
bounds-first-goal c =
    goal_known (job_of c.args.job.now).works (job_of c.args.job.now).edges c.edges-edges.result.now (c.loop-i.i - 1) (of_job c.args.job.now) c.edges-edges.ensures (omega arith)

pub offset_bounds-first-goal-in-loop-i : goal.offset_bounds-first-goal-in-loop-i
offset_bounds-first-goal-in-loop-i c =
    let known = goal_known (job_of c.args.job.now).works (job_of c.args.job.now).edges c.edges-edges.result.now (c.loop-i.i - 1) (of_job c.args.job.now) c.edges-edges.ensures (omega arith) in
    omega (arith, known)

pub bounds-first-goal-in-loop-i : goal.bounds-first-goal-in-loop-i
bounds-first-goal-in-loop-i c =
    goal_known (job_of c.args.job.now).works (job_of c.args.job.now).edges c.edges-edges.result.now (c.loop-i.i - 1) (of_job c.args.job.now) c.edges-edges.ensures (omega arith)

pub loop-i-preserved : goal.loop-i-preserved
loop-i-preserved c =
    let J = job_of c.args.job.now in
    let es = c.edges-edges.result.now in
    let i = c.loop-i.i - 1 in
    let back : c.loop-i.i ≡ i + 1 = omega arith in
    let inside : i < length es = omega arith in
    let few : length es ≤ 224 = omega (arith, (of_job c.args.job.now).few_edges, ap length c.edges-edges.ensures) in
    one_more es c.loop-i.first c.loop-i.next i few (goal_known J.works J.edges es i (of_job c.args.job.now) c.edges-edges.ensures inside) inside (subst (ChainedFrom es c.loop-i.first c.loop-i.next) back c.loop-i.invariant)

pub returns : goal.returns
returns c =
    subst (λ es. Chained es c.loop-i.first c.loop-i.next) c.edges-edges.ensures (all_chained c.edges-edges.result.now c.loop-i.first c.loop-i.next c.loop-i.i (omega arith) c.loop-i.invariant)
