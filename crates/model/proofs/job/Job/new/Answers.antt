use Rattle.std.proofs.Common.{◌≡◌, vec_items, refl, rules}
use Rattle.model.specs.JobLimits.{job_refusal}
use Rattle.model.specs.Refusals.{refusal_of}
use Rattle.model.proofs.Firsts.{unrefused}
use Rattle.model.proofs.Jobs.{job_limits, job_passes}
use Rattle.model.proofs.job.Job.new.Goals as goal

pub returns-in_err-check_job-clause-limits : goal.returns-in_err-check_job-clause-limits
returns-in_err-check_job-clause-limits c =
    let is : refusal_of c.from_residual.result ≡ job_refusal (vec_items c.args.works) (vec_items c.args.edges) = search rules in
    let passed = unrefused c.from_residual.result _ is in
    (λ e. job_limits _ _ (passed.0 e), λ l. passed.1 (job_passes _ _ l))

pub returns-clause-limits : goal.returns-clause-limits
returns-clause-limits c =
    let is : refusal_of c.check_job.result ≡ job_refusal (vec_items c.args.works) (vec_items c.args.edges) = search rules in
    let passed = unrefused c.check_job.result _ is in
    (λ e. job_limits _ _ (passed.0 (search rules)), λ l. refl)
