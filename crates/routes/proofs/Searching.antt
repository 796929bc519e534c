-- What holds while the program searches: which ways wait in its queue, and that the first of them is the next to settle.
use Rattle.std.proofs.Common.{◌≡◌, ℕ, zero, suc, ◌+◌, ◌-◌, ◌*◌, ◌<◌, ◌≤◌, Bool, true, false, List, [], ◌∷◌, ◌++◌, length, Some, refl, sym, ap, ◌∙◌, subst, ⊎_elim, arith, add-one, zero-add}
use Rattle.std.specs.Prelude.{◌≢◌, ◌==◌, Contains}
use Rattle.std.specs.Option.{option_to_list}
use Rattle.std.specs.List.{slice_get}
use Rattle.std.specs.List.Sorted.{IsPermutation}
use Rattle.std.proofs.lemmas.Bool.{cases_lt, or_parts, eqb-false, true≢false}
use Rattle.std.proofs.lemmas.Option.{same_Some, slice_get_within}
use Rattle.std.proofs.lemmas.List.Elements.{All-contains, Contains-push_cases, Contains-append_cases, Contains-append_left, Contains-append_right}
use Rattle.std.proofs.lemmas.List.Sorted.{Contains-permutation, length_permutation, IsPermutation-sym}
use Rattle.std.proofs.lemmas.List.Folds.{list_any-append}
use Rattle.std.proofs.lemmas.List.{append-nil, length_push}
use Rattle.model.specs.Data.{NetData, station_count}
use Rattle.model.specs.NetworkLimits.{carries}
use Rattle.model.specs.declared.network.Link.{Link}
use Rattle.queue.specs.Orders.{IsStrictTotalOrder, IsFirst}
use Rattle.routes.specs.Best.{LeadsTo}
use Rattle.routes.specs.Shown.Reading.{slice_get_before_push}
use Rattle.routes.specs.Search.{source, shortest, is_settled, extended, ways_on, settle, settled_after, search_order}
use Rattle.routes.specs.Shown.Settling.{Settling, no_more}
use Rattle.routes.specs.Shown.Shortest.{shortest_cases}
use Rattle.routes.specs.Shown.Turns.{settling}
use Rattle.routes.specs.Shown.Distances.{reached_from}
use Rattle.routes.specs.Shown.Ways.{next_best, last_hop_of, held_on}
use Rattle.routes.specs.WayOrder.{way_before}
use Rattle.routes.specs.Shown.WayOrders.{way_order}
use Rattle.routes.specs.Offers.{offers}
use Rattle.routes.specs.declared.settled.Settled.{Settled}
use Rattle.routes.proofs.Precedence.{not_below, not_before, not_lower}
use Rattle.routes.proofs.BackWays.{slice_get_push}
use Rattle.routes.proofs.BestWays.{offered_way, soonest}

module _ {X : Type 0} (before : X → X → Bool) (longer : X → Link → X) (N : NetData) (start : X) (s : ℕ) (order : IsStrictTotalOrder before) where
  -- w goes on from one of us, by one link, to a station of the network
  pub record WayOf (us : List (Settled X)) (w : Settled X) : Type 0 where
    pub origin : Settled X
    pub over : Link
    pub leads : LeadsTo before longer N us w.from origin w.link over w.station
    pub known : w.station < station_count N
    pub is : extended before longer N w.from origin w.link over w.station ≡ w

  -- q has a way to t that is not after w
  pub record Waits (q : List (Settled X)) (t : ℕ) (w : Settled X) : Type 0 where
    pub way : Settled X
    pub held : Contains q way
    pub there : way.station ≡ t
    pub soon : way_before before w way ≡ false

  -- us are settled, and the ways on from the first p of them wait in q
  pub record Searching (us q : List (Settled X)) (p : ℕ) : Type 0 where
    pub some : 1 ≤ length us
    pub grown : settled_after before longer N start s (length us - 1) ≡ us
    pub sound : (w : Settled X) → Contains q w → WayOf us w
    pub full : (i : ℕ) (u : Settled X) (l : ℕ) (k : Link) (t : ℕ) → i < p → LeadsTo before longer N us i u l k t → t < station_count N → is_settled us t ≡ false → Waits q t (extended before longer N i u l k t)
    pub fits : length q ≤ 16 * p

  pub settles : (us q : List (Settled X)) (p : ℕ) → Searching us q p → Settling before longer N start s us
  settles us q p h = subst (Settling before longer N start s) h.grown (settling before longer N start s order (length us - 1))

  -- the shortest of the ways on is not after any way to a station that is not settled
  shortest_first : (us : List (Settled X)) (o w : Settled X) → shortest before (ways_on before longer N us) ≡ Some o → WayOf us w → is_settled us w.station ≡ false → way_before before w o ≡ false
  shortest_first us o w e way fresh =
      let next = next_best before longer N order us o e in
      let hop = last_hop_of before longer N order us o e in
      let distance : longer way.origin.distance way.over ≡ w.distance = ap (λ (v : Settled X). v.distance) way.is in
      let no_better = next.none_better w.from way.origin w.link way.over w.station way.leads way.known fresh in
      not_before before w o (subst (λ d. before d o.distance ≡ false) distance no_better)
      (λ not_worse.
      let same : longer way.origin.distance way.over ≡ o.distance = distance ∙ order.alike _ _ (subst (λ d. before d o.distance ≡ false) distance no_better) not_worse in
      not_lower w o
      (next.none_lower w.from way.origin w.link way.over w.station way.leads way.known fresh same)
      (λ station. not_below w.from o.from (λ less. hop.first w.from way.origin w.link way.over less (subst (λ t. LeadsTo before longer N us w.from way.origin w.link way.over t) (sym station) way.leads) same))
      (λ station from.
      let leads = subst (λ t. LeadsTo before longer N us w.from way.origin w.link way.over t) (sym station) way.leads in
      let origin : way.origin ≡ hop.origin = same_Some _ _ (sym way.leads.settled ∙ ap (slice_get us) (sym from) ∙ hop.leads.settled) in
      let here = subst (λ i. LeadsTo before longer N us i way.origin w.link way.over o.station) (sym from) leads in
      let there = subst (λ u. LeadsTo before longer N us o.from u w.link way.over o.station) origin here in
      not_below w.link o.link (λ less. hop.lowest w.link way.over less there (ap (λ (u : Settled X). longer u.distance way.over) (sym origin) ∙ same)))
      (λ from.
      let origin : way.origin ≡ hop.origin = same_Some _ _ (sym way.leads.settled ∙ ap (slice_get us) (sym from) ∙ hop.leads.settled) in
      let more : way.origin.hops + 1 ≡ w.hops = ap (λ (v : Settled X). v.hops) way.is in
      let less : o.hops ≡ hop.origin.hops + 1 = hop.hops in
      less ∙ ap (λ (u : Settled X). u.hops + 1) (sym origin) ∙ more))

  on_of : (us : List (Settled X)) (w : Settled X) → WayOf us w → is_settled us w.station ≡ false → Contains (ways_on before longer N us) w
  on_of us w way fresh = subst (Contains (ways_on before longer N us)) way.is (held_on before longer N us w.from way.origin w.link way.over w.station way.leads way.known fresh)

  -- the first way that waits goes to the next station to settle, unless that is settled
  pub first_settles : (us q : List (Settled X)) (w : Settled X) → Searching us q (length us) → IsFirst (way_before before) q w → is_settled us w.station ≡ false → settle before longer N us ≡ us ++ w ∷ []
  first_settles us q w h first fresh =
      ⊎_elim
      (λ none.
      let way = h.sound w first.held in
      let held = subst (λ ws. Contains ws w) none (on_of us w way fresh) in
      absurd (omega (arith, held.1)))
      (λ some.
      let o = some.0 in
      let is = some.1 in
      let hop = last_hop_of before longer N order us o is in
      let next = next_best before longer N order us o is in
      let waits = h.full o.from hop.origin o.link hop.over o.station (slice_get_within us o.from hop.origin hop.leads.settled) hop.leads next.known next.fresh in
      let itself : extended before longer N o.from hop.origin o.link hop.over o.station ≡ o = let d = sym hop.distance in let n = sym hop.hops in λ i. record { station = o.station; distance = d i; from = o.from; link = o.link; hops = n i } in
      let soon : way_before before o waits.way ≡ false = subst (λ v. way_before before v waits.way ≡ false) itself waits.soon in
      let none_before : way_before before waits.way w ≡ false = All-contains (λ y. way_before before y w ≡ false) q waits.way first.none_before waits.held in
      let ways = way_order before order in
      let same : w ≡ o = ways.alike w o (shortest_first us o w is (h.sound w first.held) fresh) (ways.negatively_transitive o waits.way w soon none_before) in
      ap (λ v. us ++ option_to_list v) (is ∙ ap Some (sym same)))
      (shortest_cases before (ways_on before longer N us))

  settled_more : (us : List (Settled X)) (w : Settled X) (t : ℕ) → is_settled (us ++ w ∷ []) t ≡ false → (is_settled us t ≡ false) × (w.station ≢ t)
  settled_more us w t fresh =
      let parts = or_parts (is_settled us t) (is_settled (w ∷ []) t) (sym (list_any-append (λ (u : Settled X). u.station == t) us (w ∷ [])) ∙ fresh) in
      (parts.0, eqb-false w.station t (or_parts (w.station == t) false parts.1).0)

  leads_more : (us : List (Settled X)) (w : Settled X) (i : ℕ) (u : Settled X) (l : ℕ) (k : Link) (t : ℕ) → LeadsTo before longer N us i u l k t → LeadsTo before longer N (us ++ w ∷ []) i u l k t
  leads_more us w i u l k t leads = record {
    settled = slice_get_before_push us w i (slice_get_within us i u leads.settled) ∙ leads.settled;
    link = leads.link;
    carried = leads.carried;
  }

  leads_less : (us : List (Settled X)) (w : Settled X) (i : ℕ) (u : Settled X) (l : ℕ) (k : Link) (t : ℕ) → i < length us → LeadsTo before longer N (us ++ w ∷ []) i u l k t → LeadsTo before longer N us i u l k t
  leads_less us w i u l k t less leads = record {
    settled = sym (slice_get_before_push us w i less) ∙ leads.settled;
    link = leads.link;
    carried = leads.carried;
  }

  way_more : (us : List (Settled X)) (w v : Settled X) → WayOf us v → WayOf (us ++ w ∷ []) v
  way_more us w v way = record { origin = way.origin; over = way.over; leads = leads_more us w _ _ _ _ _ way.leads; known = way.known; is = way.is }

  -- what waits to t beside w waits without it, where w goes elsewhere
  waits_without : (q q1 : List (Settled X)) (w : Settled X) (t : ℕ) (e : Settled X) → IsPermutation q (w ∷ q1) → w.station ≢ t → Waits q t e → Waits q1 t e
  waits_without q q1 w t e parts other waits =
      ⊎_elim
      (λ first. let same : w ≡ waits.way = ⊎_elim (λ none. absurd (omega (arith, none.1))) (λ is. is) (Contains-push_cases [] w waits.way first) in absurd (other (ap (λ (v : Settled X). v.station) same ∙ waits.there)))
      (λ rest. record { way = waits.way; held = rest; there = waits.there; soon = waits.soon })
      (Contains-append_cases (w ∷ []) q1 waits.way (Contains-permutation q (w ∷ q1) waits.way parts waits.held))

  back : (q q1 : List (Settled X)) (w v : Settled X) → IsPermutation q (w ∷ q1) → Contains q1 v → Contains q v
  back q q1 w v parts held = Contains-permutation (w ∷ q1) q v (IsPermutation-sym q (w ∷ q1) parts) (Contains-append_right (w ∷ []) q1 v held)

  -- the first way goes to a settled station: it is let go
  pub stale : (us q q1 : List (Settled X)) (p : ℕ) (w : Settled X) → Searching us q p → IsPermutation q (w ∷ q1) → is_settled us w.station ≡ true → Searching us q1 p
  stale us q q1 p w h parts there = record {
    some = h.some;
    grown = h.grown;
    sound = λ v held. h.sound v (back q q1 w v parts held);
    full = λ i u l k t less leads known fresh.
        waits_without q q1 w t _ parts (λ same. true≢false (sym there ∙ ap (is_settled us) same ∙ fresh)) (h.full i u l k t less leads known fresh);
    fits = omega (arith, h.fits, length_permutation q (w ∷ q1) parts);
  }

  -- the first way goes to a station that is not settled: it is settled by this way
  pub pushed : (us q q1 : List (Settled X)) (w : Settled X) → Searching us q (length us) → IsFirst (way_before before) q w → IsPermutation q (w ∷ q1) → is_settled us w.station ≡ false → Searching (us ++ w ∷ []) q1 (length us)
  unfolding settled_after
  pushed us q q1 w h first parts fresh =
      let long = length_push us w in
      let some = h.some in
      let turns : length (us ++ w ∷ []) - 1 ≡ suc (length us - 1) = omega arith in
      record {
        some = omega arith;
        grown = ap (settled_after before longer N start s) turns ∙ ap (settle before longer N) h.grown ∙ first_settles us q w h first fresh;
        sound = λ v held. way_more us w v (h.sound v (back q q1 w v parts held));
        full = λ i u l k t less leads known fresh'.
            let fewer = settled_more us w t fresh' in
            waits_without q q1 w t _ parts fewer.1 (h.full i u l k t less (leads_less us w i u l k t less leads) known fewer.0);
        fits = omega (arith, h.fits, length_permutation q (w ∷ q1) parts);
      }

  -- the ways on from the last of us are put beside q
  pub offered : (us q q2 : List (Settled X)) (p : ℕ) (u : Settled X) → Searching us q p → length us ≡ suc p → slice_get us p ≡ Some u → IsPermutation (offers before longer N us (p, u) ++ q) q2 → length q2 ≤ length q + station_count N → station_count N ≤ 16 → Searching us q2 (length us)
  offered us q q2 p u h long at parts more few = record {
    some = h.some;
    grown = h.grown;
    sound = λ v held.
        ⊎_elim
        (λ new.
        let o = offered_way before longer N order us p u v new in
        let way = o.over in
        let from : p ≡ v.from = ap (λ (w : Settled X). w.from) way.is in
        let number : way.number ≡ v.link = ap (λ (w : Settled X). w.link) way.is in
        let station : o.goal ≡ v.station = ap (λ (w : Settled X). w.station) way.is in
        record {
          origin = u;
          over = way.link;
          leads = record {
            settled = ap (slice_get us) (sym from) ∙ at;
            link = ap (slice_get N.links) (sym number) ∙ way.there;
            carried = ap (carries way.link u.station) (sym station) ∙ way.carried;
          };
          known = subst (λ t. t < station_count N) station o.known;
          is =
              let d : longer u.distance way.link ≡ v.distance = ap (λ (w : Settled X). w.distance) way.is in
              let n : u.hops + 1 ≡ v.hops = ap (λ (w : Settled X). w.hops) way.is in
              λ i. record { station = v.station; distance = d i; from = v.from; link = v.link; hops = n i };
        })
        (λ old. h.sound v old)
        (Contains-append_cases (offers before longer N us (p, u)) q v (Contains-permutation q2 (offers before longer N us (p, u) ++ q) v (IsPermutation-sym (offers before longer N us (p, u) ++ q) q2 parts) held));
    full = λ i v l k t less leads known fresh.
        ⊎_elim
        (λ old.
        let waits = h.full i v l k t old leads known fresh in
        record {
          way = waits.way;
          held = Contains-permutation (offers before longer N us (p, u) ++ q) q2 waits.way parts (Contains-append_right (offers before longer N us (p, u)) q waits.way waits.held);
          there = waits.there;
          soon = waits.soon;
        })
        (λ past.
        let new : p ≡ i = omega arith in
        let same : u ≡ v = same_Some u v (sym at ∙ ap (slice_get us) new ∙ leads.settled) in
        let s = soonest before longer N order us p u t l k known fresh leads.link (ap (λ (w : Settled X). carries k w.station t) same ∙ leads.carried) in
        record {
          way = s.way;
          held = Contains-permutation (offers before longer N us (p, u) ++ q) q2 s.way parts (Contains-append_left (offers before longer N us (p, u)) q s.way s.held);
          there = s.there;
          soon = subst (λ e. way_before before e s.way ≡ false) (ap (λ n. extended before longer N n u l k t) new ∙ ap (λ w. extended before longer N i w l k t) same) s.soon;
        })
        (cases_lt i p);
    fits = omega (arith, h.fits, more, few, long);
  }

  -- the source alone, before its ways on are put into the queue
  pub begun : Searching (source start s ∷ []) [] 0
  unfolding settled_after
  begun = record {
    some = omega arith;
    grown = refl;
    sound = λ w held. absurd (omega (arith, held.1));
    full = λ i u l k t less. absurd (omega arith);
    fits = omega arith;
  }

  -- where no way waits, all is settled that the search settles
  stays : (us : List (Settled X)) (k : ℕ) → settled_after before longer N start s k ≡ us → ways_on before longer N us ≡ [] → (m : ℕ) → settled_after before longer N start s (m + k) ≡ us
  unfolding settled_after
  stays us k is none zero = ap (settled_after before longer N start s) (zero-add k) ∙ is
  stays us k is none (suc m) =
      let one : suc m + k ≡ suc (m + k) = omega arith in
      ap (settled_after before longer N start s) one
      ∙ ap (settle before longer N) (stays us k is none m)
      ∙ ap (λ ws. us ++ option_to_list (shortest before ws)) none
      ∙ append-nil us

  pub ended : (us : List (Settled X)) → s < station_count N → Searching us [] (length us) → us ≡ search_order before longer N start s
  ended us known h =
      let none : ways_on before longer N us ≡ [] =
      ⊎_elim (λ none. none)
      (λ some.
      let o = some.0 in
      let hop = last_hop_of before longer N order us o some.1 in
      let next = next_best before longer N order us o some.1 in
      let waits = h.full o.from hop.origin o.link hop.over o.station (slice_get_within us o.from hop.origin hop.leads.settled) hop.leads next.known next.fresh in
      absurd (let held = waits.held in omega (arith, held.1)))
      (shortest_cases before (ways_on before longer N us)) in
      let few = no_more before longer N start s us (settles us [] (length us) h) known in
      let some = h.some in
      let turns : (station_count N - (length us - 1)) + (length us - 1) ≡ station_count N = omega arith in
      sym (sym (ap (settled_after before longer N start s) turns) ∙ stays us (length us - 1) h.grown none (station_count N - (length us - 1)))

  -- no way has more hops than stations were settled before it
  shallow : (us : List (Settled X)) → Settling before longer N start s us → (n i : ℕ) (a : Settled X) → i ≤ n → slice_get us i ≡ Some a → a.hops ≤ i
  shallow us p n zero a less at = let same = same_Some (source start s) a (sym p.begins ∙ at) in let is : 0 ≡ a.hops = ap (λ (w : Settled X). w.hops) same in omega arith
  shallow us p zero (suc i) a less at = absurd (omega arith)
  shallow us p (suc n) (suc i) a less at =
      let r = reached_from before longer N start s us p i a at in
      let low = r.from in
      let above = shallow us p n a.from r.hop.origin (omega arith) r.leads.settled in
      omega (arith, r.hop.hops)

  -- the source is settled first, and its ways on are put into the empty queue
  pub begins : (vs us q q2 : List (Settled X)) (a : Settled X) → vs ≡ [] → q ≡ [] → a ≡ source start s → us ≡ vs ++ a ∷ [] → IsPermutation (offers before longer N us (length vs, a) ++ q) q2 → length q2 ≤ length q + station_count N → station_count N ≤ 16 → Searching us q2 (length us)
  begins vs us q q2 a none empty first is parts more few =
      let one : us ≡ source start s ∷ [] = is ∙ ap (λ ws. ws ++ a ∷ []) none ∙ ap (λ w. w ∷ []) first in
      let begun1 = subst (λ ws. Searching ws q (length vs)) (sym one) (subst (λ ws. Searching (source start s ∷ []) ws (length vs)) (sym empty) (subst (λ ws. Searching (source start s ∷ []) [] (length ws)) (sym none) begun)) in
      offered us q q2 (length vs) a begun1 (ap length is ∙ length_push vs a ∙ add-one (length vs)) (ap (λ ws. slice_get ws (length vs)) is ∙ slice_get_push vs a) parts more few

  -- a turn in which the first way settles its station
  pub turns : (us vs q q1 q2 : List (Settled X)) (w : Settled X) → Searching us q (length us) → IsFirst (way_before before) q w → IsPermutation q (w ∷ q1) → is_settled us w.station ≡ false → vs ≡ us ++ w ∷ [] → IsPermutation (offers before longer N vs (length us, w) ++ q1) q2 → length q2 ≤ length q1 + station_count N → station_count N ≤ 16 → Searching vs q2 (length vs)
  turns us vs q q1 q2 w h first parts fresh is new more few =
      offered vs q1 q2 (length us) w (subst (λ ws. Searching ws q1 (length us)) (sym is) (pushed us q q1 w h first parts fresh))
      (ap length is ∙ length_push us w ∙ add-one (length us)) (ap (λ ws. slice_get ws (length us)) is ∙ slice_get_push us w) new more few

  -- then there were fewer stations than the network has
  pub room_for : (us q q1 : List (Settled X)) (w : Settled X) → Searching us q (length us) → IsFirst (way_before before) q w → IsPermutation q (w ∷ q1) → is_settled us w.station ≡ false → s < station_count N → length us + 1 ≤ station_count N
  room_for us q q1 w h first parts fresh known =
      let p = pushed us q q1 w h first parts fresh in
      omega (arith, no_more before longer N start s (us ++ w ∷ []) (settles (us ++ w ∷ []) q1 (length us) p) known, length_push us w)

  -- and the way has fewer hops than the 16 stations allow
  pub short_with : (us q q1 : List (Settled X)) (w : Settled X) → Searching us q (length us) → IsFirst (way_before before) q w → IsPermutation q (w ∷ q1) → is_settled us w.station ≡ false → s < station_count N → station_count N ≤ 16 → w.hops < 16
  short_with us q q1 w h first parts fresh known few =
      let p = settles (us ++ w ∷ []) q1 (length us) (pushed us q q1 w h first parts fresh) in
      let deep = shallow (us ++ w ∷ []) p (length us) (length us) w (omega arith) (slice_get_push us w) in
      omega (arith, no_more before longer N start s (us ++ w ∷ []) p known, length_push us w)
