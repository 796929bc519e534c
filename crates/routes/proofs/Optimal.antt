-- Searched routes are best walks, and are there wherever a walk is.
use Rattle.std.specs.Prelude.{◌≡◌, ℕ, zero, suc, ◌<◌, ◌≤◌, Bool, true, false, List, [], ◌∷◌, Some, None, Option, refl}
use Rattle.std.specs.List.{slice_get}
use Rattle.std.proofs.Common.{sym, ap, ◌∙◌, subst, ⊎_elim, arith}
use Rattle.std.proofs.lemmas.Bool.{cases_lt, cases_order, and_parts, eqb-true, both_ways, false≢true}
use Rattle.std.proofs.lemmas.Option.{none-some, same_Some}
use Rattle.model.specs.Data.{NetData, station_count, carries_over}
use Rattle.model.specs.NetworkLimits.{NetworkLimits, carries}
use Rattle.model.specs.declared.network.Link.{Link}
use Rattle.queue.specs.Orders.{IsStrictTotalOrder}
use Rattle.routes.specs.Best.{LeadsTo, InOrder, BestRoutes, longer_over, walk_length}
use Rattle.routes.specs.Shown.Distances.{never_before_itself, offered, no_nearer}
use Rattle.routes.specs.LengthLaws.{LengthLaws}
use Rattle.routes.specs.Shown.RoutesAmong.{route_way, no_route}
use Rattle.routes.specs.Search.{source, is_settled, search_order, route_among, searched_route}
use Rattle.routes.specs.Shown.SearchedLaws.{route_is, route_none}
use Rattle.routes.specs.Shown.Settling.{Settling, settled_at, settled_place, later_differs}
use Rattle.routes.specs.Shown.Turns.{in_order}
use Rattle.routes.specs.Walks.{is_walk}
use Rattle.routes.specs.Shown.WaysBack.{way_length_is}
use Rattle.routes.specs.declared.hop.Hop.{Hop}
use Rattle.routes.specs.declared.settled.Settled.{Settled}

-- each link leads to stations of the network alone
abbrev pub LeadsInside : NetData → Type 0
LeadsInside N = (l : ℕ) (k : Link) (a b : ℕ) → slice_get N.links l ≡ Some k → carries k a b ≡ true → b < station_count N

pub leads_inside : (N : NetData) → NetworkLimits N.stations N.links → LeadsInside N
leads_inside N limits l k a b at carried = (limits.each_link l k at).known b (and_parts _ _ carried).1

-- the link over which a hop leads
carried_over : (o : Option Link) (a b : ℕ) → carries_over o a b ≡ true → (k : Link) × (o ≡ Some k) × (carries k a b ≡ true)
carried_over None a b e = absurd (false≢true e)
carried_over (Some k) a b e = (k, refl, e)

module _
    {X : Type 0}
    (before : X → X → Bool)
    (longer : X → Link → X)
    (N : NetData)
    (start : X)
    (s : ℕ)
    (us : List (Settled X))
    (order : IsStrictTotalOrder before)
    (laws : LengthLaws before longer)
    (inside : LeadsInside N)
    (o : InOrder before longer N start s us) where
  settling_of : Settling before longer N start s us
  settling_of = record { begins = o.begins; next = o.next; reached = o.reached }

  -- station t is settled, and x is no better than its distance
  record NoWorse (t : ℕ) (x : X) : Type 0 where
    pub place : ℕ
    pub settled : Settled X
    pub there : slice_get us place ≡ Some settled
    pub at : settled.station ≡ t
    pub no_better : before x settled.distance ≡ false

  -- what a link offers from a settled station is no better than what is settled, at the place before or after
  from_later : (i j : ℕ) (u b : Settled X) (l : ℕ) (k : Link) → LeadsTo before longer N us i u l k b.station → i < j → slice_get us j ≡ Some b → before (longer u.distance k) b.distance ≡ false
  from_later i zero u b l k leads less at = absurd (omega arith)
  from_later i (suc j) u b l k leads less at =
      let next = o.next j b at in
      offered before longer N start s us settling_of i j b u l k b.station (omega arith) at leads next.known next.fresh

  from_any : (i j : ℕ) (u b : Settled X) (l : ℕ) (k : Link) → LeadsTo before longer N us i u l k b.station → slice_get us j ≡ Some b → before (longer u.distance k) b.distance ≡ false
  from_any i j u b l k leads at =
      ⊎_elim (λ (less : i < j). from_later i j u b l k leads less at)
      (λ (le : j ≤ i).
      order.negatively_transitive (longer u.distance k) u.distance b.distance (laws.never_better u.distance k)
      (no_nearer before longer N start s us settling_of order laws j i b u le at leads.settled))
      (cases_lt i j)

  one_hop : (v t l : ℕ) (k : Link) (x : X) → NoWorse v x → slice_get N.links l ≡ Some k → carries k v t ≡ true → NoWorse t (longer x k)
  one_hop v t l k x w at carried =
      let u = w.settled in
      let leads : LeadsTo before longer N us w.place u l k t = record { settled = w.there; link = at; carried = subst (λ a. carries k a t ≡ true) (sym w.at) carried } in
      let b = settled_place us t (o.complete w.place u l k t leads (inside l k v t at carried)) in
      record {
        place = b.0;
        settled = b.1;
        there = b.2;
        at = b.3;
        no_better = order.negatively_transitive (longer x k) (longer u.distance k) b.1.distance (laws.stays_so u.distance x k w.no_better) (from_any w.place b.0 u b.1 l k (subst (LeadsTo before longer N us w.place u l k) (sym b.3) leads) b.2);
      }

  -- each walk on from there leads to a settled station, and is no better than the way there
  along_walk : (v t : ℕ) (x : X) (walk : List Hop) → NoWorse v x → is_walk N v t walk ≡ true → NoWorse t (walk_length before longer N x walk)
  along_walk v t x [] w is = subst (λ u. NoWorse u x) (eqb-true v t is) w
  along_walk v t x (h ∷ hops) w is =
      let parts = and_parts _ _ is in
      let c = carried_over (slice_get N.links h.link) v h.station parts.0 in
      along_walk h.station t _ hops
      (subst (λ (l : Option Link). NoWorse h.station (longer_over before longer N x l)) (sym c.1) (one_hop v h.station h.link c.0 x w c.1 c.2)) parts.1

  walked : (t : ℕ) (walk : List Hop) → is_walk N s t walk ≡ true → NoWorse t (walk_length before longer N start walk)
  walked t walk is =
      along_walk s t start walk (record { place = 0; settled = source start s; there = o.begins; at = refl; no_better = never_before_itself before order start }) is

  same_settled : (i j : ℕ) (a b : Settled X) → slice_get us i ≡ Some a → slice_get us j ≡ Some b → a.station ≡ b.station → a ≡ b
  same_settled i j a b at_i at_j same =
      ⊎_elim (λ (place : i ≡ j). same_Some a b (sym at_i ∙ ap (slice_get us) place ∙ at_j))
      (⊎_elim (λ (less : i < j). absurd (later_differs before longer N start s us settling_of i j a b less at_i at_j same))
      (λ (more : j < i). absurd (later_differs before longer N start s us settling_of j i b a more at_j at_i (sym same))))
      (cases_order i j)

  pub no_better_among : (t : ℕ) (route walk : List Hop) → route_among us t ≡ Some route → is_walk N s t walk ≡ true → before (walk_length before longer N start walk) (walk_length before longer N start route) ≡ false
  no_better_among t route walk is walks =
      let w = route_way us t route is in
      let n = walked t walk walks in
      let same = same_settled n.place w.place n.settled w.settled n.there w.there (n.at ∙ sym w.at) in
      let long : n.settled.distance ≡ walk_length before longer N start route =
      ap (λ (a : Settled X). a.distance) same ∙ sym (way_length_is before longer N start s us settling_of w.place w.settled w.there) ∙ ap (walk_length before longer N start) w.way in
      rw (← long) n.no_better

  pub none_among : (t : ℕ) (walk : List Hop) → route_among us t ≡ None → is_walk N s t walk ≡ true → ⊥
  none_among t walk none walks =
      let n = walked t walk walks in
      both_ways (is_settled us t) (no_route us t none) (subst (λ v. is_settled us v ≡ true) n.at (settled_at us n.place n.settled n.there))

module _ {X : Type 0} (before : X → X → Bool) (longer : X → Link → X) (N : NetData) (start : X) where
  pub best_routes : IsStrictTotalOrder before → LengthLaws before longer → LeadsInside N → BestRoutes before longer N start (searched_route before longer N start)
  best_routes order laws inside = record {
    no_better_walk = λ s t route walk is walks.
        ⊎_elim
        (λ (known : s < station_count N).
        no_better_among before longer N start s (search_order before longer N start s) order laws inside (in_order before longer N start s order known) t route walk (sym (route_is before longer N start s t known) ∙ is) walks)
        (λ (unknown : station_count N ≤ s). absurd (none-some route (sym (route_none before longer N start s t unknown) ∙ is)))
        (cases_lt s (station_count N));
    none_without_walk = λ s t walk known _ none walks.
        none_among before longer N start s (search_order before longer N start s) order laws inside (in_order before longer N start s order known) t walk (sym (route_is before longer N start s t known) ∙ none) walks;
  }
