-- The links of a best route by slowness are the least slow together.
use Rattle.std.proofs.lemmas.Result.{IfOk-weaker}
use Rattle.model.specs.Data.{net_of}
use Rattle.model.proofs.Networks.{of_network}
use Rattle.routes.specs.Kinds.{faster, no_delay, slower_by}
use Rattle.routes.specs.Search.{searched_route}
use Rattle.routes.specs.Shown.KindLaws.{faster_order, slowness_laws}
use Rattle.routes.specs.Shown.SearchedKept.{searched_keeps}
use Rattle.routes.proofs.KindSums.{least_slow}
use Rattle.routes.proofs.searched.kinds.routes_by_slowness.Goals as goal

pub returns-clause-fastest : goal.returns-clause-fastest
returns-clause-fastest c =
    IfOk-weaker c.new.result _ _
    (λ r best.
    let n = r.network in
    least_slow (net_of n) (searched_route faster slower_by (net_of n) no_delay) (of_network n) (searched_keeps faster slower_by no_delay faster_order slowness_laws n) best)
    c.new.ensures.best
