-- Proofs that no way uses a link twice; no definition to read stands here.
use Rattle.std.specs.Prelude.{◌≡◌, ◌≢◌, ℕ, suc, ◌<◌, ◌≤◌, ◌⊎◌, Bool, true, false, ◌||◌, List, [], ◌∷◌, ◌++◌, Some, ◌==◌, refl}
use Rattle.std.specs.List.{slice_get}
use Rattle.std.proofs.Common.{sym, ap, ◌∙◌, subst, inl, inr, ⊎_elim, arith}
use Rattle.std.proofs.lemmas.Bool.{and_from, and_parts, or_cases, or_parts, not-true, not_from_false, eqb-true, eq-eqb, false_from_ne_true, false≢true, both_ways, or_right}
use Rattle.std.proofs.lemmas.Option.{same_Some}
use Rattle.model.specs.Data.{NetData}
use Rattle.model.specs.NetworkLimits.{carries}
use Rattle.model.specs.declared.network.Link.{Link}
use Rattle.queue.specs.Orders.{IsStrictTotalOrder}
use Rattle.routes.specs.Best.{LeadsTo}
use Rattle.routes.specs.Shown.Carrying.{carries_across}
use Rattle.routes.specs.Shown.Distances.{Reached, reached_from, leads_within, offered, no_nearer}
use Rattle.routes.specs.LengthLaws.{LengthLaws}
use Rattle.routes.specs.Search.{last_hop, way_to}
use Rattle.routes.specs.Shown.Settling.{Settling, later_differs}
use Rattle.routes.specs.Walks.{uses, is_fresh}
use Rattle.routes.specs.Shown.WaysBack.{along, way_source, way_step}
use Rattle.routes.specs.declared.hop.Hop.{Hop}
use Rattle.routes.specs.declared.settled.Settled.{Settled}

-- one hop more at the end

uses_push : (l : ℕ) (hops : List Hop) (h : Hop) → uses l (hops ++ h ∷ []) ≡ true → (uses l hops ≡ true) ⊎ (h.link ≡ l)
uses_push l [] h e = ⊎_elim (λ here. inr (eqb-true h.link l here)) (λ none. absurd (false≢true none)) (or_cases (h.link == l) false e)
uses_push l (x ∷ hops) h e =
    ⊎_elim (λ here. inl (ap (λ b. b || uses l hops) here))
    (λ there. ⊎_elim (λ old. inl (or_right (x.link == l) (uses l hops) old)) inr (uses_push l hops h there))
    (or_cases (x.link == l) (uses l (hops ++ h ∷ [])) e)

not_used_push : (l : ℕ) (hops : List Hop) (h : Hop) → uses l hops ≡ false → h.link ≢ l → uses l (hops ++ h ∷ []) ≡ false
not_used_push l hops h fresh other =
    false_from_ne_true (uses l (hops ++ h ∷ [])) (λ used. ⊎_elim (both_ways (uses l hops) fresh) other (uses_push l hops h used))

is_fresh_push : (hops : List Hop) (h : Hop) → is_fresh hops ≡ true → uses h.link hops ≡ false → is_fresh (hops ++ h ∷ []) ≡ true
is_fresh_push [] h fresh none = refl
is_fresh_push (x ∷ hops) h fresh none =
    let parts = and_parts _ _ fresh in
    let new = or_parts _ _ none in
    and_from _ _ (not_from_false _ (not_used_push x.link hops h (not-true _ parts.0) (λ same. both_ways (x.link == h.link) new.0 (eq-eqb x.link h.link (sym same)))))
    (is_fresh_push hops h parts.1 new.1)

module _ {X : Type 0} (before : X → X → Bool) (longer : X → Link → X) (N : NetData) (start : X) (s : ℕ) (us : List (Settled X)) (p : Settling before longer N start s us) where
  -- a link of the way to the station at place i is the last hop's of a station at place i or before
  record UsedBy (l i : ℕ) : Type 0 where
    pub place : ℕ
    pub station : Settled X
    pub there : slice_get us (suc place) ≡ Some station
    pub by : station.link ≡ l
    pub within : suc place ≤ i

  used_by : (i : ℕ) (a : Settled X) → slice_get us i ≡ Some a → (l : ℕ) → uses l (way_to us a) ≡ true → UsedBy l i
  used_by =
      along before longer N start s us p (λ i a. (l : ℕ) → uses l (way_to us a) ≡ true → UsedBy l i)
      (λ l used. absurd (false≢true (sym (ap (uses l) (way_source us start s)) ∙ used)))
      (λ i a r at held l used.
      ⊎_elim
      (λ old. let b = held l old in record { place = b.place; station = b.station; there = b.there; by = b.by; within = omega (arith, b.within, r.from) })
      (λ new. record { place = i; station = a; there = at; by = new; within = omega arith })
      (uses_push l (way_to us r.hop.origin) (last_hop a) (sym (ap (uses l) (way_step before longer N start s us p i a r)) ∙ used)))

  module _ (order : IsStrictTotalOrder before) (laws : LengthLaws before longer) where
    -- an earlier station that leads to a over the same link offers the same length, so the search would have come from there
    none_earlier : (i : ℕ) (a v : Settled X) (c : ℕ) (r : Reached before longer N start s us p i a) → slice_get us (suc i) ≡ Some a → c < a.from → slice_get us c ≡ Some v → carries r.hop.over v.station a.station ≡ true → ⊥
    none_earlier i a v c r at earlier there carried =
        let over = r.hop.over in
        let leads : LeadsTo before longer N us c v a.link over a.station = record { settled = there; link = r.leads.link; carried = carried } in
        let next = p.next i a at in
        let no_worse = laws.stays_so v.distance r.hop.origin.distance over (no_nearer before longer N start s us p order laws c a.from v r.hop.origin (omega arith) there r.leads.settled) in
        let no_better = offered before longer N start s us p c i a v a.link over a.station (omega (arith, r.from)) at leads next.known next.fresh in
        r.hop.first c v a.link over earlier (leads_within before longer N start s us p (suc i) c v a.link over a.station (omega (arith, r.from)) leads)
        (order.alike (longer v.distance over) a.distance no_better (rw r.hop.distance no_worse))

    last_link_new : (i : ℕ) (a : Settled X) (r : Reached before longer N start s us p i a) → slice_get us (suc i) ≡ Some a → uses a.link (way_to us r.hop.origin) ≡ false
    last_link_new i a r at =
        false_from_ne_true _
        (λ used.
        let b = used_by a.from r.hop.origin r.leads.settled a.link used in
        let q = reached_from before longer N start s us p b.place b.station b.there in
        let same = same_Some q.hop.over r.hop.over (sym q.leads.link ∙ ap (slice_get N.links) b.by ∙ r.leads.link) in
        none_earlier i a q.hop.origin b.station.from r at (omega (arith, q.from, b.within)) q.leads.settled
        (carries_across r.hop.over q.hop.origin.station b.station.station r.hop.origin.station a.station
        (subst (λ k. carries k q.hop.origin.station b.station.station ≡ true) same q.leads.carried) r.leads.carried
        (later_differs before longer N start s us p b.station.from (suc i) q.hop.origin a (omega (arith, q.from, b.within, r.from)) q.leads.settled at)))

    pub way_fresh : (i : ℕ) (a : Settled X) → slice_get us i ≡ Some a → is_fresh (way_to us a) ≡ true
    way_fresh =
        along before longer N start s us p (λ i a. is_fresh (way_to us a) ≡ true) (ap is_fresh (way_source us start s))
        (λ i a r at fresh.
        ap is_fresh (way_step before longer N start s us p i a r)
        ∙ is_fresh_push (way_to us r.hop.origin) (last_hop a) fresh (last_link_new i a r at))
