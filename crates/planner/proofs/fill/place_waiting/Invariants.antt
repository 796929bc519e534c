-- What waits is placed from the state that was reached; each turn takes one task out.
use Rattle.std.proofs.Common.{length}
use Rattle.model.specs.Data.{job_of, net_of}
use Rattle.queue.specs.Items.{items}
use Rattle.planner.specs.States.{state}
use Rattle.planner.proofs.FillLoop.{FillsOn}
use Rattle.planner.proofs.fill.place_waiting.Given as goal

abbrev pub invariant-loop-next : goal.invariant-loop-next
invariant-loop-next g l = FillsOn (job_of l.job) (net_of (g.R.Routes.over l.routes)) (g.R.Routes.route l.routes) (state l.initial.sheet.count l.initial.plan (g.T.Askable.meaning l.initial.table)) (items l.waiting) (state l.sheet.count l.plan (g.T.Askable.meaning l.table))

abbrev pub decreases-loop-next : goal.decreases-loop-next
decreases-loop-next g l = length (items l.waiting)
