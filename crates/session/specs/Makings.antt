-- What is asked of what was made of a setting: of its job, its network and its routes.
use Rattle.model.specs.Data.{JobData, NetData, job_of, net_of}
use Rattle.routes.specs.Legs.{Ways}
use Rattle.session.specs.declared.made.Made.{Made}

-- what f says of its job, its network and its routes
abbrev pub on : {X A : Type 0} {r : _} → Made X r → (JobData → NetData → Ways → A) → A
on {r = r} made f = f (job_of made.job.now) (net_of (r.over made.routes.now)) (r.route made.routes.now)
