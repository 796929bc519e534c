use Rattle.std.proofs.Common.{◌≡◌, [], ◌∙◌}
use Rattle.model.specs.Data.{job_of, net_of}
use Rattle.model.specs.Plans.{plan_of}
use Rattle.planner.specs.Drawing.{new_state}
use Rattle.planner.specs.Trials.{BeingDrawn}
use Rattle.certificate.specs.Calls.{after}
use Rattle.certificate.specs.Sheets.{sheet_of}
use Rattle.session.proofs.Opened.{given, of_given, after_none}
use Rattle.session.proofs.draw.new_sheet.Goals as goal

pub unwrap-requires : goal.unwrap-requires
unwrap-requires g c = given c.draw.result (plan_of c.args.work.now.drawn) (g.T.Askable.meaning c.args.work.now.table) c.requires c.draw.ensures.refused

pub returns-clause-sheet : goal.returns-clause-sheet
returns-clause-sheet g c =
    let J = job_of c.args.made.now.job.now in
    let N = net_of (g.R.Routes.over c.args.made.now.routes.now) in
    let ρ = g.R.Routes.route c.args.made.now.routes.now in
    let X = BeingDrawn (new_state (g.T.Askable.meaning c.args.work.now.table)) in
    of_given c.draw.result c.unwrap.result (λ sheet. sheet_of sheet c.draw.new.plan (g.T.Askable.meaning c.draw.new.table) ≡ after J N ρ X []) c.unwrap.ensures c.draw.ensures.sheet
    ∙ after_none J N ρ X
