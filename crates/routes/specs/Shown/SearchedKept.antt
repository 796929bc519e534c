-- Proof that searched routes keep the laws of routes; no definition to read stands here.
use Rattle.std.specs.Prelude.{Bool}
use Rattle.model.specs.Data.{net_of}
use Rattle.model.specs.declared.network.Link.{Link}
use Rattle.model.specs.declared.network.Network.{Network}
use Rattle.model.proofs.Networks.{of_network}
use Rattle.queue.specs.Orders.{IsStrictTotalOrder}
use Rattle.routes.specs.Laws.{RouteLaws}
use Rattle.routes.specs.LengthLaws.{LengthLaws}
use Rattle.routes.specs.Search.{searched_route}
use Rattle.routes.specs.Shown.SearchedLaws.{searched_laws}

pub searched_keeps : {X : Type 0} (before : X → X → Bool) (longer : X → Link → X) (start : X) → IsStrictTotalOrder before → LengthLaws before longer → (n : Network) → RouteLaws (net_of n) (searched_route before longer (net_of n) start)
searched_keeps before longer start order laws n = searched_laws before longer (net_of n) start order laws (of_network n).few_stations
