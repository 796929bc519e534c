-- Those of the tasks gone through that are not placed wait.
use Rattle.std.proofs.Common.{◌≡◌}
use Rattle.model.specs.Data.{job_of}
use Rattle.model.specs.Plans.{plan_of}
use Rattle.queue.specs.Items.{items, room}
use Rattle.planner.specs.Levels.{bottom_level}
use Rattle.planner.proofs.WaitingTasks.{Held}
use Rattle.planner.proofs.waiting.waiting_tasks.Given as goal

abbrev pub invariant-loop-task : goal.invariant-loop-task
invariant-loop-task l = record {
  held : Held (bottom_level (job_of l.job)) (plan_of l.plan) l.task (items l.queue);
  same_room : room l.queue ≡ 128;
}
