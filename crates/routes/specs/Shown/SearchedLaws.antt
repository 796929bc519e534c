-- Proofs that searched routes keep the laws of routes; no definition to read stands here.
use Rattle.std.specs.Prelude.{◌≡◌, ◌≢◌, ℕ, zero, suc, ◌<◌, ◌≤◌, Bool, true, List, [], length, Some, None}
use Rattle.std.specs.List.{slice_get}
use Rattle.std.proofs.Common.{sym, ap, ◌∙◌, subst, ⊎_elim, arith}
use Rattle.std.proofs.lemmas.Bool.{cases_lt, cond-true, cond-false, lt-ltb, le-ltb, both_ways}
use Rattle.std.proofs.lemmas.List.{length_push}
use Rattle.std.proofs.lemmas.Option.{same_Some, slice_get_within}
use Rattle.model.specs.Data.{NetData, station_count}
use Rattle.model.specs.declared.network.Link.{Link}
use Rattle.queue.specs.Orders.{IsStrictTotalOrder}
use Rattle.routes.specs.Shown.Distances.{reached_from}
use Rattle.routes.specs.Laws.{SoundRoute, PairLaws, RouteLaws}
use Rattle.routes.specs.LengthLaws.{LengthLaws}
use Rattle.routes.specs.Shown.LinksOnce.{way_fresh}
use Rattle.routes.specs.Shown.RoutesAmong.{route_way, no_route, route_cases}
use Rattle.routes.specs.Search.{source, is_settled, last_hop, way_to, search_order, route_among, searched_route}
use Rattle.routes.specs.Shown.Settling.{Settling, station_known, later_differs, no_more, settled_at}
use Rattle.routes.specs.Shown.Turns.{settling}
use Rattle.routes.specs.Shown.Walked.{walk_sound}
use Rattle.routes.specs.Shown.WaysBack.{way_source, way_step, way_walk, way_short}
use Rattle.routes.specs.declared.hop.Hop.{Hop}
use Rattle.routes.specs.declared.settled.Settled.{Settled}

module _ {X : Type 0} (before : X → X → Bool) (longer : X → Link → X) (N : NetData) (start : X) (s : ℕ) (us : List (Settled X)) (p : Settling before longer N start s us) where
  -- the source is the one settled from its own station, and it is reached by no hop
  no_hop : (i : ℕ) (a : Settled X) → slice_get us i ≡ Some a → a.station ≡ s → way_to us a ≡ []
  no_hop zero a at is = subst (λ w. way_to us w ≡ []) (same_Some (source start s) a (sym p.begins ∙ at)) (way_source us start s)
  no_hop (suc i) a at is = absurd (later_differs before longer N start s us p 0 (suc i) (source start s) a (omega arith) p.begins at (sym is))

  -- any other is reached by some hop
  some_hops : (i : ℕ) (a : Settled X) → slice_get us i ≡ Some a → a.station ≢ s → 1 ≤ length (way_to us a)
  some_hops zero a at other = absurd (other (ap (λ (w : Settled X). w.station) (sym (same_Some (source start s) a (sym p.begins ∙ at)))))
  some_hops (suc i) a at other =
      let r = reached_from before longer N start s us p i a at in
      omega (arith, ap length (way_step before longer N start s us p i a r), length_push (way_to us r.hop.origin) (last_hop a))

  source_settled : is_settled us s ≡ true
  source_settled = settled_at us 0 (source start s) p.begins

  route_itself : route_among us s ≡ Some []
  route_itself =
      ⊎_elim (λ none. absurd (both_ways (is_settled us s) (no_route us s none) source_settled))
      (λ some.
      let w = route_way us s some.0 some.1 in
      some.1 ∙ ap Some (sym w.way ∙ no_hop w.place w.settled w.there w.at))
      (route_cases us s)

  module _ (order : IsStrictTotalOrder before) (laws : LengthLaws before longer) (known : s < station_count N) (few : station_count N ≤ 16) where
    way_sound : (i : ℕ) (a : Settled X) → slice_get us i ≡ Some a → SoundRoute N s a.station (way_to us a)
    way_sound i a at =
        let within = slice_get_within us i a at in
        let short = way_short before longer N start s us p i a at in
        let total = no_more before longer N start s us p known in
        walk_sound N s a.station (way_to us a) (way_walk before longer N start s us p i a at) (way_fresh before longer N start s us p order laws i a at) (omega arith)

    some_hop_of : (t : ℕ) → s ≢ t → route_among us t ≢ Some []
    some_hop_of t other is =
        let w = route_way us t [] is in
        let some = some_hops w.place w.settled w.there (λ same. other (sym same ∙ w.at)) in
        omega (arith, some, ap length w.way)

    sound_among : (t : ℕ) (hops : List Hop) → route_among us t ≡ Some hops → SoundRoute N s t hops
    sound_among t hops is =
        let w = route_way us t hops is in
        subst (SoundRoute N s t) w.way (subst (λ v. SoundRoute N s v (way_to us w.settled)) w.at (way_sound w.place w.settled w.there))

    pub pair_laws : (t : ℕ) → PairLaws N s t (route_among us t)
    pair_laws t = record {
      itself = λ same. subst (λ v. route_among us v ≡ Some []) same route_itself;
      some_hop = some_hop_of t;
      each_route = sound_among t;
    }

    pub none_unknown : (t : ℕ) → station_count N ≤ t → route_among us t ≡ None
    none_unknown t past =
        ⊎_elim (λ none. none)
        (λ some.
        let w = route_way us t some.0 some.1 in
        let below = station_known before longer N start s us p known w.place w.settled w.there in
        absurd (omega (arith, w.at, below)))
        (route_cases us t)

module _ {X : Type 0} (before : X → X → Bool) (longer : X → Link → X) (N : NetData) (start : X) where
  -- from a station of the network
  pub route_is : (s t : ℕ) → s < station_count N → searched_route before longer N start s t ≡ route_among (search_order before longer N start s) t
  route_is s t known = cond-true _ _ _ (lt-ltb s (station_count N) known)

  -- from an unknown one there is none
  pub route_none : (s t : ℕ) → station_count N ≤ s → searched_route before longer N start s t ≡ None
  route_none s t unknown = cond-false _ _ _ (le-ltb s (station_count N) unknown)

  pub searched_laws : IsStrictTotalOrder before → LengthLaws before longer → station_count N ≤ 16 → RouteLaws N (searched_route before longer N start)
  searched_laws order laws few = record {
    unknown_origin = route_none;
    unknown_goal = λ s t past.
        ⊎_elim
        (λ (known : s < station_count N).
        route_is s t known ∙ none_unknown before longer N start s (search_order before longer N start s) (settling before longer N start s order (station_count N)) order laws known few t past)
        (λ (unknown : station_count N ≤ s). route_none s t unknown)
        (cases_lt s (station_count N));
    each_pair = λ s t known _.
        subst (PairLaws N s t) (sym (route_is s t known))
        (pair_laws before longer N start s (search_order before longer N start s) (settling before longer N start s order (station_count N)) order laws known few t);
  }
