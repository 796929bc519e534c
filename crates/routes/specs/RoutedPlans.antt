-- What is asked of a plan with its job and its routes.
use Rattle.std.specs.Prelude.{ℕ, if◌then◌else◌, List, Some, None, Option, ◌==◌}
use Rattle.model.specs.Data.{JobData, NetData, job_of, net_of}
use Rattle.model.specs.Plans.{PlanData, plan_of, task_row}
use Rattle.model.specs.declared.job.Edge.{Edge}
use Rattle.model.specs.declared.plan.Placement.{Placement}
use Rattle.routes.specs.Legs.{Ways, way}
use Rattle.routes.specs.declared.hop.Hop.{Hop}
use Rattle.routes.specs.declared.legs.RoutedPlan.{RoutedPlan}

-- what f says of its job, its network, its routes and its plan
abbrev pub on : {X A : Type 0} {r : _} → RoutedPlan X r → (JobData → NetData → Ways → PlanData → A) → A
on {r = r} p f = f (job_of p.job.now) (net_of (r.over p.routes.now)) (r.route p.routes.now) (plan_of p.plan.now)

-- the hops on which an edge is booked
abbrev pub way_of : {X : Type 0} {r : _} → RoutedPlan X r → Edge → Option (List Hop)
way_of {r = r} p e = way (r.route p.routes.now) (plan_of p.plan.now) e

-- the stations of two tasks, if both are placed and the stations differ
abbrev pub ends_between : Option Placement → Option Placement → Option (ℕ × ℕ)
ends_between None q = None
ends_between (Some p) None = None
ends_between (Some p) (Some q) = if p.station == q.station then None else Some (p.station, q.station)

-- the stations from which and to which the file of an edge goes
abbrev pub ends : PlanData → Edge → Option (ℕ × ℕ)
ends P e = ends_between (task_row P e.from) (task_row P e.to)
