-- The tests of one written route.
use Rattle.std.specs.Prelude.{ℕ, Bool, true, false, not, ◌&&◌, ◌||◌, List, [], ◌∷◌, length, ◌==◌, nat_le}
use Rattle.model.specs.Data.{NetData, carries_at}
use Rattle.routes.specs.declared.hop.Hop.{Hop}

-- the hops lead from s to t, each over a link that carries from the station left to the one reached
abbrev pub is_walk : NetData → ℕ → ℕ → List Hop → Bool
is_walk N s t [] = s == t
is_walk N s t (h ∷ hops) = carries_at N h.link s h.station && is_walk N h.station t hops

-- one of the hops is over the link
abbrev pub uses : ℕ → List Hop → Bool
uses link [] = false
uses link (h ∷ hops) = h.link == link || uses link hops

-- no two of the hops are over the same link
abbrev pub is_fresh : List Hop → Bool
is_fresh [] = true
is_fresh (h ∷ hops) = not (uses h.link hops) && is_fresh hops

-- a route to another station: 1 to 15 hops
abbrev pub is_route : NetData → ℕ → ℕ → List Hop → Bool
is_route N s t hops = nat_le 1 (length hops) && nat_le (length hops) 15 && is_walk N s t hops && is_fresh hops
