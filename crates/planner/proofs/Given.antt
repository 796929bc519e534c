-- What is known of every job, network, routes and plan.
use Rattle.std.proofs.Common.{◌∙◌}
use Rattle.std.proofs.lemmas.List.{length-map}
use Rattle.model.specs.Data.{job_of, net_of}
use Rattle.model.specs.Plans.{plan_of, starts_of}
use Rattle.model.specs.declared.job.Job.{Job}
use Rattle.model.specs.declared.network.Network.{Network}
use Rattle.model.specs.declared.plan.Plan.{Plan}
use Rattle.model.proofs.Jobs.{of_job}
use Rattle.model.proofs.Networks.{of_network}
use Rattle.routes.specs.Laws.{RouteLaws}
use Rattle.routes.specs.Legs.{Ways}
use Rattle.planner.specs.States.{HasAllRows, Given}

pub given_of : (j : Job) (n : Network) (ρ : Ways) → RouteLaws (net_of n) ρ → Given (job_of j) (net_of n) ρ
given_of j n ρ keeps = record { job = of_job j; network = of_network n; routes = keeps }

pub all_rows_of : (p : Plan) → HasAllRows (plan_of p)
all_rows_of p = record { task_rows = p.task_rows; transfer_rows = length-map p.transfers starts_of ∙ p.transfer_rows }
