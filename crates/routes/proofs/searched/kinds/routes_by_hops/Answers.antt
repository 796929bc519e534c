-- A best route by the hop count has the fewest hops.
use Rattle.std.proofs.lemmas.Result.{IfOk-weaker}
use Rattle.model.specs.Data.{net_of}
use Rattle.routes.specs.Kinds.{fewer, no_hop, one_hop_more}
use Rattle.routes.specs.Search.{searched_route}
use Rattle.routes.specs.Shown.KindLaws.{fewer_order, hop_count_laws}
use Rattle.routes.specs.Shown.SearchedKept.{searched_keeps}
use Rattle.routes.proofs.KindSums.{fewest_hops}
use Rattle.routes.proofs.searched.kinds.routes_by_hops.Goals as goal

pub returns-clause-fewest : goal.returns-clause-fewest
returns-clause-fewest c =
    IfOk-weaker c.new.result _ _
    (λ r best.
    let n = r.network in
    fewest_hops (net_of n) (searched_route fewer one_hop_more (net_of n) no_hop) (searched_keeps fewer one_hop_more no_hop fewer_order hop_count_laws n) best)
    c.new.ensures.best
