-- The lengths of the two kinds, as plain numbers: no sum of a route comes near the greatest number of 32 bits.
use Rattle.std.proofs.Common.{◌≡◌, ℕ, suc, ◌+◌, ◌*◌, ◌≤◌, true, false, List, [], ◌∷◌, length, Some, None, refl, sym, ap, ◌∙◌, ⊎_elim, arith}
use Rattle.std.specs.Prelude.{Option, min, max, nat_lt}
use Rattle.std.specs.List.{slice_get}
use Rattle.std.proofs.lemmas.Bool.{and_parts, true≢false, cases_lt}
use Rattle.std.proofs.lemmas.Bool.Decides.{nat_tests}
use Rattle.std.proofs.lemmas.Option.{none-some}
use Rattle.model.specs.Data.{NetData, station_count, carries_over}
use Rattle.model.specs.NetworkLimits.{NetworkLimits}
use Rattle.model.specs.declared.network.Link.{Link}
use Rattle.model.proofs.Rounding.{ticks_few}
use Rattle.routes.specs.Best.{BestRoutes, walk_length, longer_over}
use Rattle.routes.specs.BestKinds.{FewestHops, LeastSlow, slowness_over, walk_slowness}
use Rattle.routes.specs.Kinds.{fewer, no_hop, one_hop_more, faster, no_delay, slower_by, slowness_of}
use Rattle.routes.specs.Laws.{RouteLaws}
use Rattle.routes.specs.Walks.{is_walk}
use Rattle.routes.specs.Shown.Walked.{is_walked}
use Rattle.routes.specs.declared.hop.Hop.{Hop}
use Rattle.routes.specs.declared.kinds.hop_count.HopCount.{HopCount}
use Rattle.routes.specs.declared.kinds.slowness.Slowness.{Slowness}

-- the link of a hop of a walk is there
there_of : (o : Option Link) (a b : ℕ) → carries_over o a b ≡ true → (k : Link) × (o ≡ Some k)
there_of None a b c = absurd (true≢false (sym c))
there_of (Some k) a b c = (k, refl)

count_more : (x n : ℕ) → x ≤ 4294967295 → min (max x (min (x + 1) 4294967295) + n) 4294967295 ≡ min (x + suc n) 4294967295
count_more x n h = omega arith

count_kept : (x : ℕ) → x ≤ 4294967295 → max x (min (x + 1) 4294967295) ≤ 4294967295
count_kept x h = omega arith

count_is : (N : NetData) (s t : ℕ) (x : HopCount) (hops : List Hop) → is_walk N s t hops ≡ true → x.count ≤ 4294967295 → (walk_length fewer one_hop_more N x hops).count ≡ min (x.count + length hops) 4294967295
count_is N s t x [] w h = omega arith
count_is N s t x (e ∷ hops) w h =
    let parts = and_parts _ _ w in
    let link = there_of (slice_get N.links e.link) s e.station parts.0 in
    ap (λ o. (walk_length fewer one_hop_more N (longer_over fewer one_hop_more N x o) hops).count) link.1
    ∙ count_is N e.station t (one_hop_more x link.0) hops parts.1 (count_kept x.count h)
    ∙ count_more x.count (length hops) h

total_more : (x s n : ℕ) → x ≤ 4294967295 → min (max x (min (x + s) 4294967295) + n) 4294967295 ≡ min (x + (s + n)) 4294967295
total_more x s n h = omega arith

total_kept : (x s : ℕ) → x ≤ 4294967295 → max x (min (x + s) 4294967295) ≤ 4294967295
total_kept x s h = omega arith

total_is : (N : NetData) (s t : ℕ) (x : Slowness) (hops : List Hop) → is_walk N s t hops ≡ true → x.total ≤ 4294967295 → (walk_length faster slower_by N x hops).total ≡ min (x.total + walk_slowness N hops) 4294967295
total_is N s t x [] w h = omega arith
total_is N s t x (e ∷ hops) w h =
    let parts = and_parts _ _ w in
    let link = there_of (slice_get N.links e.link) s e.station parts.0 in
    ap (λ o. (walk_length faster slower_by N (longer_over faster slower_by N x o) hops).total) link.1
    ∙ total_is N e.station t (slower_by x link.0) hops parts.1 (total_kept x.total (slowness_of link.0) h)
    ∙ total_more x.total (slowness_of link.0) (walk_slowness N hops) h
    ∙ ap (λ o. min (x.total + (slowness_over o + walk_slowness N hops)) 4294967295) (sym link.1)

-- a link is at most a million slow, so 15 of them stay far below
slow_few : (N : NetData) → NetworkLimits N.stations N.links → (l : ℕ) → slowness_over (slice_get N.links l) ≤ 1000000
slow_few N limits l = go (slice_get N.links l) refl
  where
    go : (o : Option Link) → slice_get N.links l ≡ o → slowness_over o ≤ 1000000
    go None e = omega arith
    go (Some k) e = ticks_few 1000000 k.speed (limits.each_link l k e).slowest

sum_few : (N : NetData) → NetworkLimits N.stations N.links → (hops : List Hop) → walk_slowness N hops ≤ 1000000 * length hops
sum_few N limits [] = omega arith
sum_few N limits (h ∷ hops) = omega (arith, slow_few N limits h.link, sum_few N limits hops)

-- a route of the network is a walk of at most 15 hops
record ShortWalk (N : NetData) (s t : ℕ) (route : List Hop) : Type 0 where
  walk : is_walk N s t route ≡ true
  few : length route ≤ 15

short_walk : (N : NetData) (ρ : ℕ → ℕ → Option (List Hop)) → RouteLaws N ρ → (s t : ℕ) (route : List Hop) → ρ s t ≡ Some route → ShortWalk N s t route
short_walk N ρ laws s t route is =
    ⊎_elim
    (λ s_known.
    ⊎_elim
    (λ t_known. let r = (laws.each_pair s t s_known t_known).each_route route is in record { walk = is_walked N s t route r.ends r.carried; few = r.few_hops })
    (λ past. absurd (none-some route (sym (laws.unknown_goal s t past) ∙ is)))
    (cases_lt t (station_count N)))
    (λ past. absurd (none-some route (sym (laws.unknown_origin s t past) ∙ is)))
    (cases_lt s (station_count N))

not_fewer : (a b x y : ℕ) → x ≡ min (0 + a) 4294967295 → y ≡ min (0 + b) 4294967295 → b ≤ 1000000 * 15 → nat_lt x y ≡ false → b ≤ a
not_fewer a b x y e f few h = grind (arith, nat_tests)

pub fewest_hops : (N : NetData) (ρ : ℕ → ℕ → Option (List Hop)) → RouteLaws N ρ → BestRoutes fewer one_hop_more N no_hop ρ → FewestHops N ρ
fewest_hops N ρ laws best = record {
  no_shorter_walk = λ s t route walk is w.
      let r = short_walk N ρ laws s t route is in
      let counts = count_is N s t no_hop walk w (omega arith) in
      let counted = count_is N s t no_hop route r.walk (omega arith) in
      let few = r.few in
      not_fewer (length walk) (length route) _ _ counts counted (omega arith) (best.no_better_walk s t route walk is w);
}

pub least_slow : (N : NetData) (ρ : ℕ → ℕ → Option (List Hop)) → NetworkLimits N.stations N.links → RouteLaws N ρ → BestRoutes faster slower_by N no_delay ρ → LeastSlow N ρ
least_slow N ρ limits laws best = record {
  no_faster_walk = λ s t route walk is w.
      let r = short_walk N ρ laws s t route is in
      let few = r.few in
      let sums = total_is N s t no_delay walk w (omega arith) in
      let summed = total_is N s t no_delay route r.walk (omega arith) in
      not_fewer (walk_slowness N walk) (walk_slowness N route) _ _ sums summed (omega (arith, sum_few N limits route)) (best.no_better_walk s t route walk is w);
}
