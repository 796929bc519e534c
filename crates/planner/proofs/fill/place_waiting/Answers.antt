-- Each turn places the first that waits.
use Rattle.std.proofs.Common.{◌≡◌, Err, refl, sym, ap, ◌∙◌, arith, rules}
use Rattle.model.specs.Data.{job_of, net_of}
use Rattle.queue.specs.Items.{items}
use Rattle.planner.specs.Reached.{run_to}
use Rattle.planner.specs.States.{state}
use Rattle.planner.proofs.Given.{given_of}
use Rattle.planner.proofs.FillLoop.{ordered_reached, fill_begins, fill_goes_on, fill_refused, reached_refused, fill_ends}
use Rattle.planner.proofs.fill.place_waiting.Goals as goal

pub loop-next-init : goal.loop-next-init
loop-next-init g c =
    fill_begins (job_of c.args.job.now) (net_of (g.R.Routes.over c.args.routes.now)) (g.R.Routes.route c.args.routes.now) (state c.args.sheet.now.count c.args.plan.now (g.T.Askable.meaning c.args.table.now))
    (items c.waiting_tasks-waiting.result) c.waiting_tasks-waiting.ensures

pub place_first-requires : goal.place_first-requires
place_first-requires g c =
    let given = given_of c.args.job.now (g.R.Routes.over c.args.routes.now) (g.R.Routes.route c.args.routes.now) (g.met.R.Routes.keeps c.args.routes.now) in
    ordered_reached (job_of c.args.job.now) (net_of (g.R.Routes.over c.args.routes.now)) (g.R.Routes.route c.args.routes.now) given
    (state c.args.sheet.now.count c.args.plan.now (g.T.Askable.meaning c.args.table.now)) (state c.loop-next.sheet.count c.loop-next.plan (g.T.Askable.meaning c.loop-next.table))
    c.requires c.loop-next.invariant.reached

pub loop-next-smaller : goal.loop-next-smaller
loop-next-smaller g c = omega (arith, c.in-Some.ensures.count)

pub loop-next-preserved : goal.loop-next-preserved
loop-next-preserved g c =
    fill_goes_on (job_of c.args.job.now) (net_of (g.R.Routes.over c.args.routes.now)) (g.R.Routes.route c.args.routes.now) (state c.args.sheet.now.count c.args.plan.now (g.T.Askable.meaning c.args.table.now))
    (items c.loop-next.waiting) (items c.pop.new.self) (state c.loop-next.sheet.count c.loop-next.plan (g.T.Askable.meaning c.loop-next.table)) (state c.place_first.new.sheet.count c.place_first.new.plan (g.T.Askable.meaning c.place_first.new.table))
    c.in-Some.next c.place_first.result c.loop-next.invariant c.in-Some.ensures.first c.in-Some.ensures.left c.place_first.ensures c.in_ok-place_first.field-0 c.in_ok-place_first.was

pub returns-in_err-place_first-clause-filled : goal.returns-in_err-place_first-clause-filled
returns-in_err-place_first-clause-filled g c =
    let is : c.from_residual.result ≡ Err c.in_err-place_first.field-0.0 = search rules in
    fill_refused (job_of c.args.job.now) (net_of (g.R.Routes.over c.args.routes.now)) (g.R.Routes.route c.args.routes.now) (state c.args.sheet.now.count c.args.plan.now (g.T.Askable.meaning c.args.table.now))
    (items c.loop-next.waiting) (items c.pop.new.self) (state c.loop-next.sheet.count c.loop-next.plan (g.T.Askable.meaning c.loop-next.table)) (state c.place_first.new.sheet.count c.place_first.new.plan (g.T.Askable.meaning c.place_first.new.table))
    c.in-Some.next c.place_first.result c.loop-next.invariant c.in-Some.ensures.first c.in-Some.ensures.left c.place_first.ensures c.in_err-place_first.field-0.0 c.in_err-place_first.was
    ∙ sym (ap (λ r. run_to r (state c.place_first.new.sheet.count c.place_first.new.plan (g.T.Askable.meaning c.place_first.new.table))) is)

pub returns-in_err-place_first-clause-reached : goal.returns-in_err-place_first-clause-reached
returns-in_err-place_first-clause-reached g c =
    reached_refused (job_of c.args.job.now) (net_of (g.R.Routes.over c.args.routes.now)) (g.R.Routes.route c.args.routes.now) (state c.args.sheet.now.count c.args.plan.now (g.T.Askable.meaning c.args.table.now))
    (items c.loop-next.waiting) (items c.pop.new.self) (state c.loop-next.sheet.count c.loop-next.plan (g.T.Askable.meaning c.loop-next.table)) (state c.place_first.new.sheet.count c.place_first.new.plan (g.T.Askable.meaning c.place_first.new.table))
    c.in-Some.next c.place_first.result c.loop-next.invariant c.in-Some.ensures.first c.in-Some.ensures.left c.place_first.ensures c.in_err-place_first.field-0.0 c.in_err-place_first.was

pub returns-clause-filled : goal.returns-clause-filled
returns-clause-filled g c =
    fill_ends (job_of c.args.job.now) (net_of (g.R.Routes.over c.args.routes.now)) (g.R.Routes.route c.args.routes.now) (state c.args.sheet.now.count c.args.plan.now (g.T.Askable.meaning c.args.table.now))
    (items c.loop-next.waiting) (state c.loop-next.sheet.count c.loop-next.plan (g.T.Askable.meaning c.loop-next.table)) (c.in_default.ensures.empty.0 refl) c.loop-next.invariant

pub returns-clause-reached : goal.returns-clause-reached
returns-clause-reached g c = c.loop-next.invariant.reached
