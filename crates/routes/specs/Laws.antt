-- The laws of routes over a network.
use Rattle.std.specs.Prelude.{◌≡◌, ℕ, ◌<◌, ◌≤◌, true, ◌≢◌, List, [], length, Some, None, Option}
use Rattle.std.specs.List.{slice_get}
use Rattle.model.specs.Data.{NetData, station_count, carries_at}
use Rattle.routes.specs.Hops.{reached}
use Rattle.routes.specs.declared.hop.Hop.{Hop}

-- what the hops of a route from s to t are
pub record SoundRoute (N : NetData) (s t : ℕ) (hops : List Hop) : Type 0 where
  -- they end at t
  pub ends : reached s hops (length hops) ≡ t
  -- each hop's link carries from the station that is left to the one that is reached
  pub carried : (i : ℕ) (h : Hop) → slice_get hops i ≡ Some h → carries_at N h.link (reached s hops i) h.station ≡ true
  -- no link stands twice
  pub no_link_twice : (i j : ℕ) (h k : Hop) → i < j → slice_get hops i ≡ Some h → slice_get hops j ≡ Some k → h.link ≢ k.link
  pub few_hops : length hops ≤ 15

-- what holds of the route from one station of the network to another or to itself, if there is one
pub record PairLaws (N : NetData) (s t : ℕ) (route : Option (List Hop)) : Type 0 where
  -- a station's route to itself is there, and is empty
  pub itself : s ≡ t → route ≡ Some []
  -- a route to another station is not empty
  pub some_hop : s ≢ t → route ≢ Some []
  pub each_route : (hops : List Hop) → route ≡ Some hops → SoundRoute N s t hops

-- ρ s t is the route from s to t
pub record RouteLaws (N : NetData) (ρ : ℕ → ℕ → Option (List Hop)) : Type 0 where
  -- from an unknown station there is no route, and none to one
  pub unknown_origin : (s t : ℕ) → station_count N ≤ s → ρ s t ≡ None
  pub unknown_goal : (s t : ℕ) → station_count N ≤ t → ρ s t ≡ None
  pub each_pair : (s t : ℕ) → s < station_count N → t < station_count N → PairLaws N s t (ρ s t)
