-- Proofs that the shortest of the ways on goes to the next best station by its last hop; no definition to read stands here.
use Rattle.std.specs.Prelude.{◌≡◌, ◌≢◌, ℕ, ◌<◌, Bool, true, false, if◌then◌else◌, List, [], ◌∷◌, Contains, Some, refl}
use Rattle.std.specs.List.{slice_get, enumerate_from, range_with_len}
use Rattle.std.proofs.Common.{sym, ap, ◌∙◌, subst, ⊎_elim, arith}
use Rattle.std.proofs.lemmas.Bool.{cases_lt, cond-true, cond-false, true_from_ne_false}
use Rattle.std.proofs.lemmas.Option.{none-some, same_Some}
use Rattle.std.proofs.lemmas.List.Elements.{All-contains, Contains-push}
use Rattle.model.specs.Data.{NetData, station_count}
use Rattle.model.specs.NetworkLimits.{carries}
use Rattle.model.specs.declared.network.Link.{Link}
use Rattle.queue.specs.Orders.{IsStrictTotalOrder}
use Rattle.routes.specs.Best.{LeadsTo, LastHop, NextBest}
use Rattle.routes.specs.Shown.Reading.{slice_get_enumerate, enumerated, slice_get_range, in_range}
use Rattle.routes.specs.Search.{shortest, is_settled, extended, ways_from, ways_to, ways_on}
use Rattle.routes.specs.Shown.Shortest.{NoneBetter, NoBetter, Worse, EachWorse, shortest_flat_map, shortest_least, contains_flat_map}
use Rattle.routes.specs.declared.settled.Settled.{Settled}

module _ {X : Type 0} (before : X → X → Bool) (longer : X → Link → X) (N : NetData) where
  -- the way over one link, if it carries
  abbrev over : ℕ → ℕ × Settled X → ℕ × Link → List (Settled X)
  over t p q = if carries q.1 p.1.station t then extended before longer N p.0 p.1 q.0 q.1 t ∷ [] else []

  -- the ways to one station, if it is not settled
  abbrev to : List (Settled X) → ℕ → List (Settled X)
  to us t = if is_settled us t then [] else ways_to before longer N us t

  module _ (us : List (Settled X)) (i : ℕ) (u : Settled X) (l : ℕ) (k : Link) (t : ℕ) (leads : LeadsTo before longer N us i u l k t) where
    -- what leads on is among the ways over that link, from that place, to that station, and among all
    held_over : Contains (over t (i, u) (l, k)) (extended before longer N i u l k t)
    held_over = subst (λ ws. Contains ws (extended before longer N i u l k t)) (sym (cond-true (carries k u.station t) (extended before longer N i u l k t ∷ []) [] leads.carried)) (Contains-push [] (extended before longer N i u l k t))

    held_from : Contains (ways_from before longer N t (i, u)) (extended before longer N i u l k t)
    held_from =
        contains_flat_map (over t (i, u)) (enumerate_from 0 N.links) l (l, k) (extended before longer N i u l k t)
        (slice_get_enumerate N.links l k leads.link) held_over

    held_to : Contains (ways_to before longer N us t) (extended before longer N i u l k t)
    held_to =
        contains_flat_map (ways_from before longer N t) (enumerate_from 0 us) i (i, u) (extended before longer N i u l k t)
        (slice_get_enumerate us i u leads.settled) held_from

    held : is_settled us t ≡ false → Contains (to us t) (extended before longer N i u l k t)
    held fresh =
        subst (λ ws. Contains ws (extended before longer N i u l k t)) (sym (cond-false (is_settled us t) [] (ways_to before longer N us t) fresh)) held_to

    pub held_on : t < station_count N → is_settled us t ≡ false → Contains (ways_on before longer N us) (extended before longer N i u l k t)
    unfolding ways_on
    held_on known fresh =
        contains_flat_map (to us) (range_with_len 0 (station_count N)) t t (extended before longer N i u l k t)
        (slice_get_range (station_count N) t known) (held fresh)

  -- the shortest of the ways on goes by link l from u, at place i, to station t, where the earlier choices of each gave worse ways
  record Chosen (us : List (Settled X)) (o : Settled X) : Type 0 where
    pub station : ℕ
    pub place : ℕ
    pub origin : Settled X
    pub number : ℕ
    pub link : Link
    pub leads : LeadsTo before longer N us place origin number link station
    pub known : station < station_count N
    pub fresh : is_settled us station ≡ false
    pub same : extended before longer N place origin number link station ≡ o
    pub least : NoneBetter before o (ways_on before longer N us)
    pub worse_stations : (t : ℕ) → t < station → EachWorse before o (to us t)
    pub worse_origins : (i : ℕ) (u : Settled X) → i < place → slice_get us i ≡ Some u → EachWorse before o (ways_from before longer N station (i, u))
    pub worse_links : (l : ℕ) (k : Link) → l < number → slice_get N.links l ≡ Some k → EachWorse before o (over station (place, origin) (l, k))

  -- where the shortest of a choice is there, the choice fell on the side that has one
  of_else : (b : Bool) (ws : List (Settled X)) (o : Settled X) → shortest before (if b then [] else ws) ≡ Some o → (b ≡ false) × (shortest before ws ≡ Some o)
  of_else true ws o e = absurd (none-some o e)
  of_else false ws o e = (refl, e)

  of_then : (b : Bool) (w o : Settled X) → shortest before (if b then w ∷ [] else []) ≡ Some o → (b ≡ true) × (w ≡ o)
  of_then true w o e = (refl, same_Some w o e)
  of_then false w o e = absurd (none-some o e)

  chosen : IsStrictTotalOrder before → (us : List (Settled X)) (o : Settled X) → shortest before (ways_on before longer N us) ≡ Some o → Chosen us o
  unfolding ways_on
  chosen order us o e =
      let a = shortest_flat_map before (to us) order (range_with_len 0 (station_count N)) o e in
      let a_at = in_range (station_count N) a.place a.item a.there in
      let a_own = of_else (is_settled us a.item) (ways_to before longer N us a.item) o a.own in
      let b = shortest_flat_map before (ways_from before longer N a.item) order (enumerate_from 0 us) o a_own.1 in
      let b_at = enumerated us b.place b.item b.there in
      let c = shortest_flat_map before (over a.item b.item) order (enumerate_from 0 N.links) o b.own in
      let c_at = enumerated N.links c.place c.item c.there in
      let c_own = of_then (carries c.item.1 b.item.1.station a.item) (extended before longer N b.item.0 b.item.1 c.item.0 c.item.1 a.item) o c.own in
      record {
        station = a.item;
        place = b.item.0;
        origin = b.item.1;
        number = c.item.0;
        link = c.item.1;
        leads = record {
          settled = ap (slice_get us) b_at.0 ∙ b_at.1;
          link = ap (slice_get N.links) c_at.0 ∙ c_at.1;
          carried = c_own.0;
        };
        known = omega (arith, a_at.0, a_at.1);
        fresh = a_own.0;
        same = c_own.1;
        least = shortest_least before order (ways_on before longer N us) o e;
        worse_stations = λ t less. a.earlier t t (omega (arith, a_at.1)) (slice_get_range (station_count N) t (omega (arith, a_at.0, a_at.1)));
        worse_origins = λ i u less at. b.earlier i (i, u) (omega (arith, b_at.0)) (slice_get_enumerate us i u at);
        worse_links = λ l k less at. c.earlier l (l, k) (omega (arith, c_at.0)) (slice_get_enumerate N.links l k at);
      }

  worse_differs : IsStrictTotalOrder before → (o w : Settled X) → Worse before o w → w.distance ≢ o.distance
  worse_differs order o w worse e = grind (arith, order.asymmetric)

  module _ (order : IsStrictTotalOrder before) (us : List (Settled X)) (o : Settled X) (c : Chosen us o) where
    station_is : c.station ≡ o.station
    station_is = ap (λ (w : Settled X). w.station) c.same

    last_hop_chosen : LastHop before longer N us o
    last_hop_chosen = record {
      origin = c.origin;
      over = c.link;
      leads = subst (λ (w : Settled X). LeadsTo before longer N us w.from c.origin w.link c.link w.station) c.same c.leads;
      distance = sym (ap (λ (w : Settled X). w.distance) c.same);
      hops = sym (ap (λ (w : Settled X). w.hops) c.same);
      first = λ i u l k less leads.
          let other = subst (LeadsTo before longer N us i u l k) (sym station_is) leads in
          let place : c.place ≡ o.from = ap (λ (w : Settled X). w.from) c.same in
          let w = extended before longer N i u l k c.station in
          worse_differs order o w
          (All-contains (Worse before o) (ways_from before longer N c.station (i, u)) w (c.worse_origins i u (omega arith) other.settled) (held_from us i u l k c.station other));
      lowest = λ l k less leads.
          let place : o.from ≡ c.place = sym (ap (λ (w : Settled X). w.from) c.same) in
          let here = subst (LeadsTo before longer N us o.from c.origin l k) (sym station_is) leads in
          let other = subst (λ i. LeadsTo before longer N us i c.origin l k c.station) place here in
          let number : c.number ≡ o.link = ap (λ (w : Settled X). w.link) c.same in
          let w = extended before longer N c.place c.origin l k c.station in
          worse_differs order o w
          (All-contains (Worse before o) (over c.station (c.place, c.origin) (l, k)) w (c.worse_links l k (omega arith) other.link) (held_over us c.place c.origin l k c.station other));
    }

    next_best_chosen : NextBest before longer N us o
    next_best_chosen = record {
      known = subst (λ t. t < station_count N) station_is c.known;
      fresh = subst (λ t. is_settled us t ≡ false) station_is c.fresh;
      none_better = λ i u l k t leads known fresh.
          All-contains (NoBetter before o) (ways_on before longer N us) (extended before longer N i u l k t) c.least (held_on us i u l k t leads known fresh);
      none_lower = λ i u l k t leads known fresh same.
          ⊎_elim
          (λ less.
          let w = extended before longer N i u l k t in
          absurd
          (worse_differs order o w
          (All-contains (Worse before o) (to us t) w (c.worse_stations t (omega (arith, station_is))) (held us i u l k t leads fresh)) same))
          (λ past. past)
          (cases_lt t o.station);
    }

  -- where a way on is the shortest, it is the next best, by its last hop
  pub next_best : IsStrictTotalOrder before → (us : List (Settled X)) (o : Settled X) → shortest before (ways_on before longer N us) ≡ Some o → NextBest before longer N us o
  next_best order us o e = next_best_chosen order us o (chosen order us o e)

  pub last_hop_of : IsStrictTotalOrder before → (us : List (Settled X)) (o : Settled X) → shortest before (ways_on before longer N us) ≡ Some o → LastHop before longer N us o
  last_hop_of order us o e = last_hop_chosen order us o (chosen order us o e)

  -- where no way is left, each station that a link leads to is settled
  pub none_left : (us : List (Settled X)) → ways_on before longer N us ≡ [] → (i : ℕ) (u : Settled X) (l : ℕ) (k : Link) (t : ℕ) → LeadsTo before longer N us i u l k t → t < station_count N → is_settled us t ≡ true
  none_left us none i u l k t leads known =
      true_from_ne_false (is_settled us t)
      (λ fresh.
      let held = subst (λ ws. Contains ws (extended before longer N i u l k t)) none (held_on us i u l k t leads known fresh) in
      omega (arith, held.1))
