-- What the search is for, in words of walks: which way to a station is the best, and how the search comes to its last hop.
use Rattle.std.specs.Prelude.{◌≡◌, ◌≢◌, ℕ, suc, ◌+◌, ◌<◌, ◌≤◌, Bool, true, false, List, [], ◌∷◌, take, Some, None, Option}
use Rattle.std.specs.List.{slice_get}
use Rattle.model.specs.Data.{NetData, station_count}
use Rattle.model.specs.NetworkLimits.{carries}
use Rattle.model.specs.declared.network.Link.{Link}
use Rattle.routes.specs.Search.{is_settled, source, search_order}
use Rattle.routes.specs.Walks.{is_walk}
use Rattle.routes.specs.declared.hop.Hop.{Hop}
use Rattle.routes.specs.declared.settled.Settled.{Settled}

module _ {X : Type 0} (before : X → X → Bool) (longer : X → Link → X) (N : NetData) where
  -- a length with one link more, given by its number
  abbrev pub longer_over : X → Option Link → X
  longer_over x None = x
  longer_over x (Some k) = longer x k

  -- the length of a walk that goes on from a way of length x
  abbrev pub walk_length : X → List Hop → X
  walk_length x [] = x
  walk_length x (h ∷ hops) = walk_length (longer_over x (slice_get N.links h.link)) hops

  -- ρ s t is a best walk from s to t, and is there wherever a walk is; any list of hops that leads from s to t is a walk
  pub record BestRoutes (start : X) (ρ : ℕ → ℕ → Option (List Hop)) : Type 0 where
    pub no_better_walk : (s t : ℕ) (route walk : List Hop) → ρ s t ≡ Some route → is_walk N s t walk ≡ true → before (walk_length start walk) (walk_length start route) ≡ false
    pub none_without_walk : (s t : ℕ) (walk : List Hop) → s < station_count N → t < station_count N → ρ s t ≡ None → is_walk N s t walk ≡ true → ⊥

  -- link number l of the network leads from u, one of us, at place i, to station t
  pub record LeadsTo (us : List (Settled X)) (i : ℕ) (u : Settled X) (l : ℕ) (k : Link) (t : ℕ) : Type 0 where
    pub settled : slice_get us i ≡ Some u
    pub link : slice_get N.links l ≡ Some k
    pub carried : carries k u.station t ≡ true

  -- how a is reached from the stations us that were settled before it: its last hop comes from the first of them that
  -- offers its length, over the lowest-numbered link by which that one does
  pub record LastHop (us : List (Settled X)) (a : Settled X) : Type 0 where
    pub origin : Settled X
    pub over : Link
    pub leads : LeadsTo us a.from origin a.link over a.station
    pub distance : a.distance ≡ longer origin.distance over
    pub hops : a.hops ≡ origin.hops + 1
    pub first : (i : ℕ) (u : Settled X) (l : ℕ) (k : Link) → i < a.from → LeadsTo us i u l k a.station → longer u.distance k ≢ a.distance
    pub lowest : (l : ℕ) (k : Link) → l < a.link → LeadsTo us a.from origin l k a.station → longer origin.distance k ≢ a.distance

  -- a is the station to settle after us: no other that is not settled is offered a better length, nor the same length and is lower
  pub record NextBest (us : List (Settled X)) (a : Settled X) : Type 0 where
    pub known : a.station < station_count N
    pub fresh : is_settled us a.station ≡ false
    pub none_better : (i : ℕ) (u : Settled X) (l : ℕ) (k : Link) (t : ℕ) → LeadsTo us i u l k t → t < station_count N → is_settled us t ≡ false → before (longer u.distance k) a.distance ≡ false
    pub none_lower : (i : ℕ) (u : Settled X) (l : ℕ) (k : Link) (t : ℕ) → LeadsTo us i u l k t → t < station_count N → is_settled us t ≡ false → longer u.distance k ≡ a.distance → a.station ≤ t

  -- us are settled from station s in the order of the search
  pub record InOrder (start : X) (s : ℕ) (us : List (Settled X)) : Type 0 where
    pub begins : slice_get us 0 ≡ Some (source start s)
    pub next : (i : ℕ) (a : Settled X) → slice_get us (suc i) ≡ Some a → NextBest (take (suc i) us) a
    pub reached : (i : ℕ) (a : Settled X) → slice_get us (suc i) ≡ Some a → LastHop (take (suc i) us) a
    -- none is left that could be settled
    pub complete : (i : ℕ) (u : Settled X) (l : ℕ) (k : Link) (t : ℕ) → LeadsTo us i u l k t → t < station_count N → is_settled us t ≡ true

  -- so the search settles them from each station of the network
  pub record InOrderFromEach (start : X) : Type 0 where
    pub from : (s : ℕ) → s < station_count N → InOrder start s (search_order before longer N start s)
