use Rattle.model.specs.Data.{job_of, net_of}
use Rattle.certificate.specs.Sheets.{sheet_of}
use Rattle.certificate.proofs.Runs.{Underway}
use Rattle.certificate.proofs.draw.draw_on.Given as goal

abbrev pub invariant-loop-next : goal.invariant-loop-next
invariant-loop-next g l =
    Underway (job_of l.job) (net_of (g.R.Routes.over l.routes)) (g.R.Routes.route l.routes)
    (sheet_of l.initial.sheet l.initial.plan (g.T.Askable.meaning l.initial.table)) l.initial.asked l.next-index
    (sheet_of l.sheet l.plan (g.T.Askable.meaning l.table)) l.asked
