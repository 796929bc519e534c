use Rattle.std.proofs.Common.{ℕ, rules, tests}
use Rattle.std.proofs.lemmas.Iterator.{YieldsList-from_slice}
use Rattle.std.proofs.lemmas.Iterator.Consumers.{YieldsList-from_enumerate}
use Rattle.std.proofs.lemmas.Iterator.Search.{all_from_yields_List}
use Rattle.model.specs.Data.{job_of}
use Rattle.model.specs.Plans.{starts}
use Rattle.model.specs.declared.job.Edge.{Edge}
use Rattle.routes.specs.Legs.{way}
use Rattle.routes.specs.RoutedPlans.{on}
use Rattle.planner.specs.Order.{start_for_each}
use Rattle.planner.proofs.order.edges.keeps_routes.Goals as goal

pub returns : goal.returns
returns g c =
    let p = c.args.routed.now in
    let test = λ (x : ℕ × Edge). on p (λ J N ρ P. start_for_each (way ρ P x.1) (starts P x.0)) in
    all_from_yields_List test _ _ c.all.result c.all.ensures.ran (YieldsList-from_enumerate (YieldsList-from_slice (job_of p.job.now).edges (cc)) (cc)) (λ x b q k. search (rules, tests))
