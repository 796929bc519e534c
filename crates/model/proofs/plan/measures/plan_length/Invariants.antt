use Rattle.std.proofs.Common.{◌≡◌, max, drop}
use Rattle.model.specs.Data.{job_of, net_of}
use Rattle.model.specs.Plans.{plan_of, latest_finish}
use Rattle.model.proofs.plan.measures.plan_length.Given as goal

abbrev pub invariant-loop-t : goal.invariant-loop-t
invariant-loop-t l = max l.latest (latest_finish (job_of l.job) (net_of l.network) l.t (drop l.t (plan_of l.plan).tasks)) ≡ latest_finish (job_of l.job) (net_of l.network) 0 (plan_of l.plan).tasks
