use Rattle.model.specs.Data.{job_of}
use Rattle.model.specs.Plans.{plan_of}
use Rattle.planner.proofs.NeedLoop.{Counting}
use Rattle.planner.proofs.needs.bookings_needed.Given as goal

abbrev pub invariant-loop-i : goal.invariant-loop-i
invariant-loop-i g l = Counting (job_of l.routed.job.now) (g.R.Routes.route l.routed.routes.now) (plan_of l.routed.plan.now) l.task l.machine l.i l.needed
