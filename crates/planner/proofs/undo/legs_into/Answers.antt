use Rattle.std.proofs.Common.{◌≡◌, ◌==◌, ℕ, length, sym, ◌∙◌, arith, rules, tests}
use Rattle.std.specs.List.{sum_by}
use Rattle.std.proofs.lemmas.Iterator.{YieldsList-from_slice, YieldsList-from_map}
use Rattle.std.proofs.lemmas.Iterator.Consumers.{YieldsList-at, YieldsList-from_enumerate, YieldsList-from_filter, sum_by_from_yields_List, fits_by_from_yields_list}
use Rattle.std.proofs.lemmas.List.Concat.{length-flat_map}
use Rattle.model.specs.Data.{job_of, net_of}
use Rattle.model.specs.Plans.{plan_of}
use Rattle.model.specs.declared.job.Edge.{Edge}
use Rattle.model.proofs.Jobs.{of_job}
use Rattle.routes.specs.Legs.{legs}
use Rattle.routes.specs.RoutedPlans.{on}
use Rattle.planner.specs.Edges.{incoming}
use Rattle.planner.proofs.Undoing.{few_legs}
use Rattle.planner.proofs.undo.legs_into.Given.{Over}
use Rattle.planner.proofs.undo.legs_into.Goals as goal

pub sum-requires-clause-fits : goal.sum-requires-clause-fits
sum-requires-clause-fits g c =
    let p = c.args.routed.now in
    let J = job_of p.job.now in
    let h = λ (x : ℕ × Edge). length (on p legs x.0) in
    let few = few_legs J (net_of (g.R.Routes.over p.routes.now)) (g.R.Routes.route p.routes.now) p.keeps (plan_of p.plan.now) c.args.task in
    let edges = (of_job p.job.now).few_edges in
    fits_by_from_yields_list h (incoming J c.args.task) _ _
    (YieldsList-from_map _ h
    (YieldsList-at c.map.ensures.source
    (YieldsList-from_filter _ (λ (x : ℕ × Edge). x.1.to == c.args.task)
    (YieldsList-at c.filter.ensures.source (YieldsList-from_enumerate (YieldsList-from_slice J.edges (cc)) (cc)))
    c.filter.ensures.closure (λ x r q k. search (rules, tests))))
    c.map.ensures.closure (λ x r q k. search (rules, tests)))
    (omega (arith, few, edges))

counted : (g : Over) (c : goal.After-sum g) → c.sum.result ≡ sum_by (λ (x : ℕ × Edge). length (on c.args.routed.now legs x.0)) (incoming (job_of c.args.routed.now.job.now) c.args.task)
counted g c =
    let p = c.args.routed.now in
    let J = job_of p.job.now in
    let h = λ (x : ℕ × Edge). length (on p legs x.0) in
    sum_by_from_yields_List h (incoming J c.args.task) _ _ c.sum.ensures.ran
    (YieldsList-from_map _ h
    (YieldsList-at c.map.ensures.source
    (YieldsList-from_filter _ (λ (x : ℕ × Edge). x.1.to == c.args.task)
    (YieldsList-at c.filter.ensures.source (YieldsList-from_enumerate (YieldsList-from_slice J.edges (cc)) (cc)))
    c.filter.ensures.closure (λ x r q k. search (rules, tests))))
    c.map.ensures.closure (λ x r q k. search (rules, tests)))

pub returns-clause-value : goal.returns-clause-value
returns-clause-value g c = counted g c ∙ sym (length-flat_map (λ (x : ℕ × Edge). on c.args.routed.now legs x.0) (incoming (job_of c.args.routed.now.job.now) c.args.task))

pub returns-clause-few : goal.returns-clause-few
returns-clause-few g c =
    let p = c.args.routed.now in
    let few = few_legs (job_of p.job.now) (net_of (g.R.Routes.over p.routes.now)) (g.R.Routes.route p.routes.now) p.keeps (plan_of p.plan.now) c.args.task in
    omega (arith, counted g c, few, (of_job p.job.now).few_edges)
