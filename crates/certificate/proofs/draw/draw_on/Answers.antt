use Rattle.certificate.proofs.Runs.{one_more, all_sheet, all_answers}
use Rattle.certificate.proofs.Promises.{goes_on}
use Rattle.model.proofs.Jobs.{of_job}
use Rattle.model.proofs.Networks.{of_network}
use Rattle.certificate.proofs.draw.draw_on.Goals as goal

pub loop-next-preserved : goal.loop-next-preserved
loop-next-preserved g c = one_more _ _ _ _ _ _ _ _ _ _ c.loop-next-test.true c.carry_out-left.ensures c.loop-next.invariant

pub returns-clause-sheet : goal.returns-clause-sheet
returns-clause-sheet g c = all_sheet _ _ _ _ _ _ _ _ c.loop-next-test.false c.loop-next.invariant

pub returns-clause-answers : goal.returns-clause-answers
returns-clause-answers g c = all_answers _ _ _ _ _ _ _ _ c.loop-next-test.false c.loop-next.invariant

pub returns-clause-certified : goal.returns-clause-certified
returns-clause-certified g c before from =
    goes_on _ _ _ (record { job = of_job c.args.job.now; network = of_network (g.R.Routes.over c.args.routes.now); routes = g.met.R.Routes.keeps c.args.routes.now }) before _ _ _ from (returns-clause-sheet g c)
