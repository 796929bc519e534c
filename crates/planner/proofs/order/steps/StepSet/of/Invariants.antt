use Rattle.model.specs.Plans.{plan_of}
use Rattle.planner.proofs.OrderRows.{StepsSoFar}
use Rattle.planner.proofs.order.steps.StepSet.of.Given as goal

abbrev pub invariant-loop-task : goal.invariant-loop-task
invariant-loop-task l = StepsSoFar (plan_of l.plan) l.steps l.marks l.task-index
