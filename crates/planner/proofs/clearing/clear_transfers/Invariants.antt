-- What is left of the edges into the task empties the rest.
use Rattle.std.proofs.Common.{◌≡◌}
use Rattle.model.specs.Data.{job_of}
use Rattle.model.specs.Plans.{plan_of}
use Rattle.planner.specs.Drawing.{without_transfers}
use Rattle.planner.proofs.Incoming.{into_from, emptied}
use Rattle.planner.proofs.clearing.clear_transfers.Given as goal

abbrev pub invariant-loop-i : goal.invariant-loop-i
invariant-loop-i l =
    emptied (plan_of l.plan) (into_from l.edge-items l.task l.i) ≡ without_transfers (job_of l.job) l.task (plan_of l.initial.plan)
