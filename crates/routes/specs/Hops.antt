-- The words for routes as lists of hops.
use Rattle.std.specs.Prelude.{ℕ, zero, suc, List, [], ◌∷◌, Some, None, Option}
use Rattle.std.specs.List.{slice_get}
use Rattle.routes.specs.declared.hop.Hop.{Hop}

-- the hops of a route; none where there is no route
abbrev pub hops_of : Option (List Hop) → List Hop
hops_of None = []
hops_of (Some hops) = hops

-- the hop at a place of a route, if there is a route and it has so many hops
abbrev pub hop_at : Option (List Hop) → ℕ → Option Hop
hop_at route i = slice_get (hops_of route) i

-- the station that is reached from s after i of the hops
abbrev pub reached : ℕ → List Hop → ℕ → ℕ
reached s [] i = s
reached s (h ∷ hops) zero = s
reached s (h ∷ hops) (suc i) = reached h.station hops i
