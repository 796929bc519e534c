-- What the loop began from is still what was reached from.
use Rattle.model.specs.Data.{job_of, net_of}
use Rattle.planner.specs.Outcomes.{DrawState}
use Rattle.planner.specs.Reached.{ReachedFrom}
use Rattle.planner.specs.States.{state}
use Rattle.planner.proofs.fill.take_back_to.Given as goal

abbrev pub invariant-loop-sheet : goal.invariant-loop-sheet
invariant-loop-sheet g l =
    (S : DrawState)
    → ReachedFrom (job_of l.job) (net_of (g.R.Routes.over l.routes)) (g.R.Routes.route l.routes) l.count (state l.initial.sheet.count l.initial.plan (g.T.Askable.meaning l.initial.table)) S
    → ReachedFrom (job_of l.job) (net_of (g.R.Routes.over l.routes)) (g.R.Routes.route l.routes) l.count (state l.sheet.count l.plan (g.T.Askable.meaning l.table)) S

abbrev pub decreases-loop-sheet : goal.decreases-loop-sheet
decreases-loop-sheet g l = l.sheet.count
