-- The search for the best ways from one station, for any kind of length. Stations are settled one by one, best first.
-- This file does not name the struct of searched routes, whose ghost field cites it.
use Rattle.std.specs.Prelude.{ℕ, zero, suc, ◌+◌, Bool, if◌then◌else◌, List, [], ◌∷◌, ◌++◌, Some, None, Option, ◌==◌, nat_lt}
use Rattle.std.specs.Option.{option_map, option_map_or, option_to_list}
use Rattle.std.specs.List.{slice_get, flat_map, enumerate_from, range_with_len, list_any, find}
use Rattle.model.specs.Data.{NetData, station_count}
use Rattle.model.specs.NetworkLimits.{carries}
use Rattle.model.specs.declared.network.Link.{Link}
use Rattle.routes.specs.declared.hop.Hop.{Hop}
use Rattle.routes.specs.declared.settled.Settled.{Settled}

module _ {X : Type 0} (before : X → X → Bool) where
  abbrev pub shorter : Settled X → Option (Settled X) → Settled X
  shorter w None = w
  shorter w (Some v) = if before v.distance w.distance then v else w

  -- of several ways the one of the best length, the first among equals
  abbrev pub shortest : List (Settled X) → Option (Settled X)
  shortest [] = None
  shortest (w ∷ ws) = Some (shorter w (shortest ws))

-- the station s, from which the search begins
abbrev pub source : {X : Type 0} → X → ℕ → Settled X
source start s = record { station = s; distance = start; from = 0; link = 0; hops = 0 }

-- whether one of the settled stations is t
abbrev pub is_settled : {X : Type 0} → List (Settled X) → ℕ → Bool
is_settled us t = list_any (λ u. u.station == t) us

module _ {X : Type 0} (before : X → X → Bool) (longer : X → Link → X) (N : NetData) where
  -- the way to u, which is settled at place i, with one hop more: over link k, of number l, to station t
  abbrev pub extended : ℕ → Settled X → ℕ → Link → ℕ → Settled X
  extended i u l k t = record { station = t; distance = longer u.distance k; from = i; link = l; hops = u.hops + 1 }

  -- the ways to t that go on from u: one over each link that carries from u to t, by rising link number
  abbrev pub ways_from : ℕ → ℕ × Settled X → List (Settled X)
  ways_from t (i, u) =
      flat_map (λ (l, k). if carries k u.station t then extended i u l k t ∷ [] else []) (enumerate_from 0 N.links)

  -- the ways to t from the settled stations us, in the order in which they were settled
  abbrev pub ways_to : List (Settled X) → ℕ → List (Settled X)
  ways_to us t = flat_map (ways_from t) (enumerate_from 0 us)

  -- the ways to the stations that are not settled, by rising station
  unfoldable pub ways_on : List (Settled X) → List (Settled X)
  ways_on us = flat_map (λ t. if is_settled us t then [] else ways_to us t) (range_with_len 0 (station_count N))

  -- one station more is settled: the best of those ways is taken, if there is one
  abbrev pub settle : List (Settled X) → List (Settled X)
  settle us = us ++ option_to_list (shortest before (ways_on us))

  -- the stations settled from s, in order, after the source and k more turns
  unfoldable pub settled_after : X → ℕ → ℕ → List (Settled X)
  settled_after start s zero = source start s ∷ []
  settled_after start s (suc k) = settle (settled_after start s k)

  -- as many turns as there are stations: no way is left then
  abbrev pub search_order : X → ℕ → List (Settled X)
  search_order start s = settled_after start s (station_count N)

-- the hop by which a is reached
abbrev pub last_hop : {X : Type 0} → Settled X → Hop
last_hop a = record { link = a.link; station = a.station }

-- the last n hops of the way to a, one of the settled stations us
unfoldable pub hops_back : {X : Type 0} → List (Settled X) → ℕ → Settled X → List Hop
hops_back us zero a = []
hops_back us (suc n) a = option_map_or (hops_back us n) (slice_get us a.from) [] ++ last_hop a ∷ []

-- the hops of the way to a, from the source on
abbrev pub way_to : {X : Type 0} → List (Settled X) → Settled X → List Hop
way_to us a = hops_back us a.hops a

-- what the settled stations say of t: the way there, or none where t is not settled
abbrev pub route_among : {X : Type 0} → List (Settled X) → ℕ → Option (List Hop)
route_among us t = option_map (way_to us) (find (λ u. u.station == t) us)

-- the route from s to t; there is none from an unknown station
abbrev pub searched_route : {X : Type 0} → (X → X → Bool) → (X → Link → X) → NetData → X → ℕ → ℕ → Option (List Hop)
searched_route before longer N start s t =
    if nat_lt s (station_count N) then route_among (search_order before longer N start s) t else None
