-- What was placed is taken back.
use Rattle.std.proofs.Common.{◌∙◌, sym}
use Rattle.model.specs.Data.{job_of, net_of}
use Rattle.planner.specs.States.{state}
use Rattle.planner.proofs.Given.{given_of}
use Rattle.planner.proofs.Trying.{same_again}
use Rattle.planner.proofs.first_finish.finish_on.Goals as goal

pub returns-clause-unchanged : goal.returns-clause-unchanged
returns-clause-unchanged g c =
    let given = given_of c.args.job.now (g.R.Routes.over c.args.routes.now) (g.R.Routes.route c.args.routes.now) (g.met.R.Routes.keeps c.args.routes.now) in
    let S = state c.args.sheet.now.count c.args.plan.now (g.T.Askable.meaning c.args.table.now) in
    let U = state c.place_in_order.new.sheet.count c.place_in_order.new.plan (g.T.Askable.meaning c.place_in_order.new.table) in
    let V = state c.take_back_step.new.sheet.count c.take_back_step.new.plan (g.T.Askable.meaning c.take_back_step.new.table) in
    same_again (job_of c.args.job.now) (net_of (g.R.Routes.over c.args.routes.now)) (g.R.Routes.route c.args.routes.now) given S U c.args.task c.args.machine
    c.place_in_order.result c.in_ok-finish.finish c.requires c.place_in_order.ensures (sym c.ok.ensures.value ∙ c.in_ok-finish.was) V c.take_back_step.result c.take_back_step.ensures
