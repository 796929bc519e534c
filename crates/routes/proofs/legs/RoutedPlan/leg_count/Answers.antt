use Rattle.std.proofs.Common.{◌≡◌, length, min, Some, unwrap_or, ap, ◌∙◌, rules}
use Rattle.model.specs.Data.{job_of, net_of}
use Rattle.model.specs.Plans.{plan_of, starts}
use Rattle.routes.specs.Legs.{legs}
use Rattle.routes.specs.RoutedPlans.{on}
use Rattle.routes.proofs.Transfers.{legs_counted}
use Rattle.routes.proofs.legs.RoutedPlan.leg_count.Goals as goal

pub returns : goal.returns
returns g c =
    let p = c.args.self.now in
    let i = c.args.i in
    let hops = c.in-Some-way_length.hops in
    let few = length (starts (plan_of p.plan.now) i) in
    let there : c.way_length.result ≡ Some hops = cc c.in-Some-way_length.is in
    let counted = legs_counted (job_of p.job.now) (net_of (g.R.Routes.over p.routes.now)) (g.R.Routes.route p.routes.now) (plan_of p.plan.now) i c.in-Some.edge c.way_length.result c.in-Some.ensures c.way_length.ensures in
    let is : length (on p legs i) ≡ min hops few = counted ∙ ap (λ o. min (unwrap_or o 0) few) there in
    rw is (search rules)
