-- What the ways of settled stations keep, so that they can be walked back.
use Rattle.std.specs.Prelude.{◌≡◌, ℕ, ◌+◌, ◌≤◌, Bool, if◌then◌else◌, List, [], Some, nat_lt}
use Rattle.std.specs.List.{slice_get}
use Rattle.model.specs.Data.{NetData, station_count}
use Rattle.model.specs.declared.network.Link.{Link}
use Rattle.routes.specs.Search.{search_order}
use Rattle.routes.specs.declared.settled.Settled.{Settled}

-- the stations settled from s; none where the network has no such station
abbrev pub search_known : {X : Type 0} → (X → X → Bool) → (X → Link → X) → NetData → X → ℕ → List (Settled X)
search_known before longer N start s = if nat_lt s (station_count N) then search_order before longer N start s else []

-- the station before a is one of us, and the way to it has one hop fewer
pub record HasOrigin {X : Type 0} (us : List (Settled X)) (a : Settled X) : Type 0 where
  pub origin : Settled X
  pub there : slice_get us a.from ≡ Some origin
  pub hops : a.hops ≡ origin.hops + 1

-- each of us that a hop leads to has one
pub record HasOrigins {X : Type 0} (us : List (Settled X)) : Type 0 where
  pub each : (i : ℕ) (a : Settled X) → slice_get us i ≡ Some a → 1 ≤ a.hops → HasOrigin us a
