-- Each turn takes one step back.
use Rattle.model.specs.Data.{job_of, net_of}
use Rattle.planner.specs.States.{state}
use Rattle.planner.proofs.Given.{given_of}
use Rattle.planner.proofs.TakingBackTo.{from_back, from_fewer, from_same}
use Rattle.planner.proofs.fill.take_back_to.Goals as goal

pub loop-sheet-init : goal.loop-sheet-init
loop-sheet-init g c = λ S from. from

pub loop-sheet-smaller : goal.loop-sheet-smaller
loop-sheet-smaller g c =
    let given = given_of c.args.job.now (g.R.Routes.over c.args.routes.now) (g.R.Routes.route c.args.routes.now) (g.met.R.Routes.keeps c.args.routes.now) in
    from_fewer (job_of c.args.job.now) (net_of (g.R.Routes.over c.args.routes.now)) (g.R.Routes.route c.args.routes.now) given c.args.count (state c.loop-sheet.sheet.count c.loop-sheet.plan (g.T.Askable.meaning c.loop-sheet.table))
    (state c.take_back_step.new.sheet.count c.take_back_step.new.plan (g.T.Askable.meaning c.take_back_step.new.table)) c.requires.0 c.take_back_step.result
    (c.loop-sheet.invariant c.requires.0 c.requires.1) c.loop-sheet-test.true c.take_back_step.ensures

pub loop-sheet-preserved : goal.loop-sheet-preserved
loop-sheet-preserved g c =
    let given = given_of c.args.job.now (g.R.Routes.over c.args.routes.now) (g.R.Routes.route c.args.routes.now) (g.met.R.Routes.keeps c.args.routes.now) in
    λ S from. from_back (job_of c.args.job.now) (net_of (g.R.Routes.over c.args.routes.now)) (g.R.Routes.route c.args.routes.now) given c.args.count (state c.loop-sheet.sheet.count c.loop-sheet.plan (g.T.Askable.meaning c.loop-sheet.table))
    (state c.take_back_step.new.sheet.count c.take_back_step.new.plan (g.T.Askable.meaning c.take_back_step.new.table)) S c.take_back_step.result
    (c.loop-sheet.invariant S from) c.loop-sheet-test.true c.take_back_step.ensures

pub returns : goal.returns
returns g c =
    let given = given_of c.args.job.now (g.R.Routes.over c.args.routes.now) (g.R.Routes.route c.args.routes.now) (g.met.R.Routes.keeps c.args.routes.now) in
    λ S from. from_same (job_of c.args.job.now) (net_of (g.R.Routes.over c.args.routes.now)) (g.R.Routes.route c.args.routes.now) given c.args.count (state c.loop-sheet.sheet.count c.loop-sheet.plan (g.T.Askable.meaning c.loop-sheet.table)) S (c.loop-sheet.invariant S from) c.loop-sheet-test.false
