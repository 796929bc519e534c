-- What the best routes of the two kinds of length are, in plain numbers.
use Rattle.std.specs.Prelude.{◌≡◌, ℕ, ◌+◌, ◌≤◌, true, List, [], ◌∷◌, length, Some, None, Option}
use Rattle.std.specs.List.{slice_get}
use Rattle.model.specs.Data.{NetData}
use Rattle.model.specs.declared.network.Link.{Link}
use Rattle.routes.specs.Kinds.{slowness_of}
use Rattle.routes.specs.Walks.{is_walk}
use Rattle.routes.specs.declared.hop.Hop.{Hop}

-- no walk from s to t has fewer hops than the route ρ s t
pub record FewestHops (N : NetData) (ρ : ℕ → ℕ → Option (List Hop)) : Type 0 where
  pub no_shorter_walk : (s t : ℕ) (route walk : List Hop) → ρ s t ≡ Some route → is_walk N s t walk ≡ true → length route ≤ length walk

-- a link that is not there adds nothing
abbrev pub slowness_over : Option Link → ℕ
slowness_over None = 0
slowness_over (Some k) = slowness_of k

-- how slow the links of a walk are together
abbrev pub walk_slowness : NetData → List Hop → ℕ
walk_slowness N [] = 0
walk_slowness N (h ∷ hops) = slowness_over (slice_get N.links h.link) + walk_slowness N hops

-- the links of no walk from s to t are less slow together than those of the route ρ s t
pub record LeastSlow (N : NetData) (ρ : ℕ → ℕ → Option (List Hop)) : Type 0 where
  pub no_faster_walk : (s t : ℕ) (route walk : List Hop) → ρ s t ≡ Some route → is_walk N s t walk ≡ true → walk_slowness N route ≤ walk_slowness N walk
