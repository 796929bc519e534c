use Rattle.std.proofs.Common.{sym, ap, ◌∙◌, arith}
use Rattle.model.specs.Data.{job_of, net_of, transfer_length}
use Rattle.model.specs.Plans.{plan_of}
use Rattle.model.proofs.Networks.{of_network}
use Rattle.routes.proofs.Along.{here}
use Rattle.routes.proofs.Transfers.{leg_no_hop, leg_no_start, leg_both}
use Rattle.routes.proofs.legs.RoutedPlan.leg.Goals as goal

pub overflow_add-result : goal.overflow_add-result
overflow_add-result g c =
    let n = g.R.Routes.over c.args.self.now.routes.now in
    let h = here (net_of n) _ c.args.self.now.keeps c.in_ok-from.from c.in_ok-from.to c.args.k c.in_ok-hop.hop (sym c.in_ok-hop.ensures) in
    omega (arith, h.link_there, (of_network n).few_links)

pub returns-in_err-hop : goal.returns-in_err-hop
returns-in_err-hop g c =
    let p = c.args.self.now in
    c.from_residual-in_err-hop.ensures
    ∙ sym (leg_no_hop (job_of p.job.now) (net_of (g.R.Routes.over p.routes.now)) _ (plan_of p.plan.now) c.args.i c.in_ok-edge.edge _ c.args.k c.in_ok-edge.ensures c.in_ok-from.ensures.way c.in_err-hop.ensures)

pub returns-in_err-start : goal.returns-in_err-start
returns-in_err-start g c =
    let p = c.args.self.now in
    c.from_residual-in_err-start.ensures
    ∙ sym (leg_no_start (job_of p.job.now) (net_of (g.R.Routes.over p.routes.now)) _ (plan_of p.plan.now) c.args.i c.in_ok-edge.edge _ c.args.k c.in_ok-edge.ensures c.in_ok-from.ensures.way c.in_err-start.ensures)

pub returns : goal.returns
returns g c =
    let p = c.args.self.now in
    let e = c.in_ok-edge.edge in
    let h = c.in_ok-hop.hop in
    sym (leg_both (job_of p.job.now) (net_of (g.R.Routes.over p.routes.now)) _ (plan_of p.plan.now) c.args.i e _ c.args.k c.in_ok-edge.ensures c.in_ok-from.ensures.way h c.in_ok-start.start c.transfer_length.result c.in_ok-hop.ensures c.in_ok-start.ensures
    (c.transfer_length.ensures ∙ ap (λ n. transfer_length (net_of n) e.volume h.link) c.network.ensures))
