use Rattle.std.proofs.Common.{◌≡◌, ◌+◌, ◌<◌, ◌≤◌, length, get_or, Err, sym, ap, subst, ◌∙◌, rules}
use Rattle.model.specs.Data.{job_of, net_of}
use Rattle.model.specs.Plans.{plan_of}
use Rattle.planner.specs.Booked.{brought, brought_so}
use Rattle.planner.specs.Edges.{incoming}
use Rattle.planner.specs.Placing.{bring_all}
use Rattle.planner.proofs.EdgesIn.{no_edge, finished, skips, edge_placed, rows_after, brings, refused, brings_on}
use Rattle.planner.proofs.bringing.bring_all.Goals as goal
use Rattle.planner.proofs.bringing.bring_all.Goals.{then-edge-task+in_ok-ready, else-edge-task}

pub bring-requires-clause-placed : goal.bring-requires-clause-placed
bring-requires-clause-placed g c =
    let J = job_of c.args.job.now in
    let N = net_of (g.R.Routes.over c.args.routes.now) in
    let ρ = g.R.Routes.route c.args.routes.now in
    let t = c.args.task in
    let m = c.args.machine in
    let P0 = plan_of c.args.plan.now in
    let A = g.T.Askable.meaning c.args.table.now in
    let whole = bring_all J N ρ m (incoming J t) (brought_so P0 A 0) in
    let i = c.loop-i.i in
    let P = plan_of c.loop-i.plan in
    let T = g.T.Askable.meaning c.loop-i.table in
    let ready = c.loop-i.ready in
    let u = c.loop-i.invariant in
    let es = c.edges-edge-items.result.now in
    let e = get_or es i no_edge in
    let within : i < length J.edges = subst (λ l. i < length l) c.edges-edge-items.ensures c.loop-i-test.true in
    let at : get_or J.edges i no_edge ≡ e = sym (ap (λ l. get_or l i no_edge) c.edges-edge-items.ensures) in
    edge_placed J N ρ t m P0 A whole i P T ready u e within at c.if-edge-task.true c.requires.placed

pub returns-in_err-ready-clause-answer : goal.returns-in_err-ready-clause-answer
returns-in_err-ready-clause-answer g c =
    let J = job_of c.args.job.now in
    let N = net_of (g.R.Routes.over c.args.routes.now) in
    let ρ = g.R.Routes.route c.args.routes.now in
    let t = c.args.task in
    let m = c.args.machine in
    let P0 = plan_of c.args.plan.now in
    let A = g.T.Askable.meaning c.args.table.now in
    let whole = bring_all J N ρ m (incoming J t) (brought_so P0 A 0) in
    let i = c.loop-i.i in
    let P = plan_of c.loop-i.plan in
    let T = g.T.Askable.meaning c.loop-i.table in
    let ready = c.loop-i.ready in
    let u = c.loop-i.invariant in
    let es = c.edges-edge-items.result.now in
    let e = get_or es i no_edge in
    let within : i < length J.edges = subst (λ l. i < length l) c.edges-edge-items.ensures c.loop-i-test.true in
    let at : get_or J.edges i no_edge ≡ e = sym (ap (λ l. get_or l i no_edge) c.edges-edge-items.ensures) in
    let x = c.in_err-ready.field-0.0 in
    let was : c.from_residual.result ≡ Err x = search rules in
    ap (λ r. brought r (plan_of c.bring.new.plan) (g.T.Askable.meaning c.bring.new.table)) was
    ∙ refused J N ρ t m P0 A whole i P T ready u e within at c.if-edge-task.true x c.in_err-ready.ensures.answer

pub returns-in_err-ready-clause-rows : goal.returns-in_err-ready-clause-rows
returns-in_err-ready-clause-rows g c =
    let J = job_of c.args.job.now in
    let N = net_of (g.R.Routes.over c.args.routes.now) in
    let ρ = g.R.Routes.route c.args.routes.now in
    let t = c.args.task in
    let m = c.args.machine in
    let P0 = plan_of c.args.plan.now in
    let A = g.T.Askable.meaning c.args.table.now in
    let whole = bring_all J N ρ m (incoming J t) (brought_so P0 A 0) in
    let i = c.loop-i.i in
    let P = plan_of c.loop-i.plan in
    let T = g.T.Askable.meaning c.loop-i.table in
    let ready = c.loop-i.ready in
    let u = c.loop-i.invariant in
    let es = c.edges-edge-items.result.now in
    let e = get_or es i no_edge in
    let within : i < length J.edges = subst (λ l. i < length l) c.edges-edge-items.ensures c.loop-i-test.true in
    let at : get_or J.edges i no_edge ≡ e = sym (ap (λ l. get_or l i no_edge) c.edges-edge-items.ensures) in
    rows_after J N ρ t m P0 A whole i P T ready u e within at c.if-edge-task.true (plan_of c.bring.new.plan) c.bring.ensures.row

pub loop-i-preserved : goal.loop-i-preserved
loop-i-preserved g c =
    let J = job_of c.args.job.now in
    let N = net_of (g.R.Routes.over c.args.routes.now) in
    let ρ = g.R.Routes.route c.args.routes.now in
    let t = c.args.task in
    let m = c.args.machine in
    let P0 = plan_of c.args.plan.now in
    let A = g.T.Askable.meaning c.args.table.now in
    let whole = bring_all J N ρ m (incoming J t) (brought_so P0 A 0) in
    let i = c.loop-i.i in
    let P = plan_of c.loop-i.plan in
    let T = g.T.Askable.meaning c.loop-i.table in
    let ready = c.loop-i.ready in
    let u = c.loop-i.invariant in
    let es = c.edges-edge-items.result.now in
    let e = get_or es i no_edge in
    let within : i < length J.edges = subst (λ l. i < length l) c.edges-edge-items.ensures c.loop-i-test.true in
    let at : get_or J.edges i no_edge ≡ e = sym (ap (λ l. get_or l i no_edge) c.edges-edge-items.ensures) in
    elim c.if-edge-task.branch [
      | then-edge-task+in_ok-ready w ↦ (
          let Q = plan_of w.bring.new.plan in
          let U = g.T.Askable.meaning w.bring.new.table in
          brings_on J N ρ t m P0 A whole (i + 1) Q _ U _ w.in_ok-ready.ready _ (ap plan_of w.plan-is) (ap (g.T.Askable.meaning) w.table-is) w.ready-is
          (brings J N ρ t m P0 A whole i P T ready u e within at w.if-edge-task.true Q U w.in_ok-ready.ready w.in_ok-ready.ensures.answer w.bring.ensures.row w.bring.ensures.kept w.bring.ensures.few))
      | else-edge-task w ↦ (
          brings_on J N ρ t m P0 A whole (i + 1) P _ T _ ready _ (ap plan_of w.plan-is) (ap (g.T.Askable.meaning) w.table-is) w.ready-is
          (skips J N ρ t m P0 A whole i P T ready u e within at w.if-edge-task.false))
    ]

pub returns-clause-answer : goal.returns-clause-answer
returns-clause-answer g c =
    let J = job_of c.args.job.now in
    let N = net_of (g.R.Routes.over c.args.routes.now) in
    let ρ = g.R.Routes.route c.args.routes.now in
    let t = c.args.task in
    let m = c.args.machine in
    let P0 = plan_of c.args.plan.now in
    let A = g.T.Askable.meaning c.args.table.now in
    let whole = bring_all J N ρ m (incoming J t) (brought_so P0 A 0) in
    let i = c.loop-i.i in
    let P = plan_of c.loop-i.plan in
    let T = g.T.Askable.meaning c.loop-i.table in
    let ready = c.loop-i.ready in
    let u = c.loop-i.invariant in
    finished J N ρ t m P0 A whole i P T ready u (subst (λ l. length l ≤ i) c.edges-edge-items.ensures c.loop-i-test.false)
