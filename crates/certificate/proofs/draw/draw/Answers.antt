use Rattle.std.proofs.Common.{ap, sym, subst, ◌∙◌}
use Rattle.model.specs.Data.{job_of, net_of}
use Rattle.model.specs.Plans.{plan_of}
use Rattle.planner.specs.Trials.{BeingDrawn}
use Rattle.certificate.specs.Calls.{after, told, calls_of}
use Rattle.model.proofs.Jobs.{of_job}
use Rattle.model.proofs.Networks.{of_network}
use Rattle.certificate.specs.Certificate.{Certified}
use Rattle.certificate.specs.Sheets.{sheet_of}
use Rattle.certificate.specs.Promise.{FromNewSheet}
use Rattle.certificate.proofs.Opening.{opened, opened_state, unchanged, plan_of_sheet}
use Rattle.certificate.proofs.Promises.{every_list_of_calls}
use Rattle.certificate.proofs.draw.draw.Goals as goal

pub returns-in_err-drawing-clause-unchanged : goal.returns-in_err-drawing-clause-unchanged
returns-in_err-drawing-clause-unchanged g c = unchanged _ (plan_of c.args.plan.now) (plan_of c.new_sheet.new.plan) (g.T.Askable.meaning c.args.table.now) c.args.asked.now _ c.in_err-drawing.ensures

pub returns-in_err-drawing-clause-every_list : goal.returns-in_err-drawing-clause-every_list
returns-in_err-drawing-clause-every_list g c = every_list_of_calls

pub returns-clause-sheet : goal.returns-clause-sheet
returns-clause-sheet g c =
    let o = opened (plan_of c.args.plan.now) (plan_of c.new_sheet.new.plan) (g.T.Askable.meaning c.args.table.now) c.in_ok-drawing.drawing.count c.in_ok-drawing.ensures in
    c.draw_on.ensures.sheet
    ∙ ap (λ S. after (job_of c.args.job.now) (net_of (g.R.Routes.over c.args.routes.now)) (g.R.Routes.route c.args.routes.now) (BeingDrawn S) (calls_of c.args.asked.now)) (opened_state _ _ _ o)

pub returns-clause-answers : goal.returns-clause-answers
returns-clause-answers g c =
    let o = opened (plan_of c.args.plan.now) (plan_of c.new_sheet.new.plan) (g.T.Askable.meaning c.args.table.now) c.in_ok-drawing.drawing.count c.in_ok-drawing.ensures in
    c.draw_on.ensures.answers
    ∙ ap (λ S. told (job_of c.args.job.now) (net_of (g.R.Routes.over c.args.routes.now)) (g.R.Routes.route c.args.routes.now) (BeingDrawn S) c.args.asked.now) (opened_state _ _ _ o)

pub returns-clause-certified : goal.returns-clause-certified
returns-clause-certified g c =
    let o = opened (plan_of c.args.plan.now) (plan_of c.new_sheet.new.plan) (g.T.Askable.meaning c.args.table.now) c.in_ok-drawing.drawing.count c.in_ok-drawing.ensures in
    let J = job_of c.args.job.now in
    let N = net_of (g.R.Routes.over c.args.routes.now) in
    let ρ = g.R.Routes.route c.args.routes.now in
    let X = sheet_of c.draw_on.result c.draw_on.new.plan (g.T.Askable.meaning c.draw_on.new.table) in
    let from : FromNewSheet J N ρ (calls_of c.args.asked.now) X = record {
      table = g.T.Askable.meaning c.args.table.now;
      empty = record { none_booked = o.empty; horizon = g.met.T.Askable.horizon_limit c.args.table.now };
      drawn = sym (returns-clause-sheet g c);
    } in
    subst (λ P. Certified J N ρ P) (plan_of_sheet c.draw_on.result c.draw_on.new.plan (g.T.Askable.meaning c.draw_on.new.table))
    (every_list_of_calls J N ρ (record { job = of_job c.args.job.now; network = of_network (g.R.Routes.over c.args.routes.now); routes = g.met.R.Routes.keeps c.args.routes.now }) _ X from)

pub returns-clause-every_list : goal.returns-clause-every_list
returns-clause-every_list g c = every_list_of_calls
