-- The best way from one settled station to another station is before every other way between them, and what is offered to the queue holds it.
use Rattle.std.proofs.Common.{◌≡◌, ℕ, suc, ◌+◌, ◌<◌, Bool, true, false, List, [], ◌∷◌, Some, None, refl, sym, ap, ◌∙◌, subst, ⊎_elim, arith}
use Rattle.std.specs.Prelude.{Option, Contains, if◌then◌else◌}
use Rattle.std.specs.Option.{option_to_list}
use Rattle.std.specs.List.{slice_get, flat_map, range_with_len, enumerate_from}
use Rattle.std.proofs.lemmas.Bool.{cond-true, cond-false, true≢false}
use Rattle.std.proofs.lemmas.List.Elements.{All-contains, Contains-push, Contains-push_cases, Contains-append_cases}
use Rattle.model.specs.Data.{NetData, station_count}
use Rattle.model.specs.NetworkLimits.{carries}
use Rattle.model.specs.declared.network.Link.{Link}
use Rattle.queue.specs.Orders.{IsStrictTotalOrder}
use Rattle.routes.specs.Shown.Reading.{slice_get_enumerate, enumerated, slice_get_range, in_range}
use Rattle.routes.specs.Search.{shortest, is_settled, extended, ways_from}
use Rattle.routes.specs.Shown.Shortest.{NoBetter, Worse, shortest_held, shortest_cases, shortest_flat_map, contains_flat_map}
use Rattle.routes.specs.WayOrder.{way_before}
use Rattle.routes.specs.Offers.{offer_to, offers}
use Rattle.routes.specs.declared.settled.Settled.{Settled}
use Rattle.routes.proofs.Precedence.{not_below, not_before, not_lower}

-- what the whole holds, the piece of some element holds
pub from_piece : {X Y : Type 0} (f : Y → List X) (ys : List Y) (x : X) → Contains (flat_map f ys) x → (j : ℕ) × (y : Y) × (slice_get ys j ≡ Some y) × Contains (f y) x
from_piece f [] x held = absurd (omega (arith, held.1))
from_piece f (y ∷ ys) x held =
    ⊎_elim (λ here. (0, y, refl, here))
    (λ there. let r = from_piece f ys x there in (suc r.0, r.1, r.2, r.3))
    (Contains-append_cases (f y) (flat_map f ys) x held)

one_of : {X : Type 0} (w v : X) → Contains (w ∷ []) v → w ≡ v
one_of w v held = ⊎_elim (λ none. absurd (omega (arith, none.1))) (λ is. is) (Contains-push_cases [] w v held)

in_else : {X : Type 0} (b : Bool) (ws : List X) (v : X) → Contains (if b then [] else ws) v → (b ≡ false) × Contains ws v
in_else true ws v held = absurd (omega (arith, held.1))
in_else false ws v held = (refl, held)

in_then : {X : Type 0} (b : Bool) (w v : X) → Contains (if b then w ∷ [] else []) v → (b ≡ true) × (w ≡ v)
in_then true w v held = (refl, one_of w v held)
in_then false w v held = absurd (omega (arith, held.1))

in_option : {X : Type 0} (o : Option X) (v : X) → Contains (option_to_list o) v → o ≡ Some v
in_option None v held = absurd (omega (arith, held.1))
in_option (Some w) v held = ap Some (one_of w v held)

option_in : {X : Type 0} (o : Option X) (v : X) → o ≡ Some v → Contains (option_to_list o) v
option_in o v is = subst (λ x. Contains (option_to_list x) v) (sym is) (Contains-push [] v)

module _ {X : Type 0} (before : X → X → Bool) (longer : X → Link → X) (N : NetData) (order : IsStrictTotalOrder before) where
  -- the way over one link, if it carries
  abbrev over : ℕ → ℕ × Settled X → ℕ × Link → List (Settled X)
  over t p q = if carries q.1 p.1.station t then extended before longer N p.0 p.1 q.0 q.1 t ∷ [] else []

  -- a way from u, at place i, to t, by one link that carries
  pub record Over (i : ℕ) (u : Settled X) (t : ℕ) (v : Settled X) : Type 0 where
    pub number : ℕ
    pub link : Link
    pub there : slice_get N.links number ≡ Some link
    pub carried : carries link u.station t ≡ true
    pub is : extended before longer N i u number link t ≡ v

  pub over_link : (i : ℕ) (u : Settled X) (t : ℕ) (v : Settled X) → Contains (ways_from before longer N t (i, u)) v → Over i u t v
  over_link i u t v held =
      let r = from_piece (over t (i, u)) (enumerate_from 0 N.links) v held in
      let at = enumerated N.links r.0 r.1 r.2 in
      let c = in_then (carries r.1.1 u.station t) (extended before longer N i u r.1.0 r.1.1 t) v r.3 in
      record { number = r.1.0; link = r.1.1; there = ap (slice_get N.links) at.0 ∙ at.1; carried = c.0; is = c.1 }

  pub link_over : (i : ℕ) (u : Settled X) (t l : ℕ) (k : Link) → slice_get N.links l ≡ Some k → carries k u.station t ≡ true → Contains (ways_from before longer N t (i, u)) (extended before longer N i u l k t)
  link_over i u t l k there carried =
      contains_flat_map (over t (i, u)) (enumerate_from 0 N.links) l (l, k) (extended before longer N i u l k t) (slice_get_enumerate N.links l k there)
      (subst (λ ws. Contains ws (extended before longer N i u l k t)) (sym (cond-true (carries k u.station t) (extended before longer N i u l k t ∷ []) [] carried)) (Contains-push [] (extended before longer N i u l k t)))

  -- the best of the ways from u to t is after none of them
  best_first : (i : ℕ) (u : Settled X) (t : ℕ) (v : Settled X) → shortest before (ways_from before longer N t (i, u)) ≡ Some v → (l : ℕ) (k : Link) → slice_get N.links l ≡ Some k → carries k u.station t ≡ true → way_before before (extended before longer N i u l k t) v ≡ false
  best_first i u t v is l k there carried =
      let e = extended before longer N i u l k t in
      let piece = shortest_flat_map before (over t (i, u)) order (enumerate_from 0 N.links) v is in
      let at = enumerated N.links piece.place piece.item piece.there in
      let own = in_then (carries piece.item.1 u.station t) (extended before longer N i u piece.item.0 piece.item.1 t) v (shortest_held before (over t (i, u) piece.item) v piece.own) in
      let held : Contains (over t (i, u) (l, k)) e = subst (λ ws. Contains ws e) (sym (cond-true (carries k u.station t) (e ∷ []) [] carried)) (Contains-push [] e) in
      let no_better = All-contains (NoBetter before v) (over t (i, u) (l, k)) e (piece.none_better l (l, k) (slice_get_enumerate N.links l k there)) held in
      let station : t ≡ v.station = ap (λ (w : Settled X). w.station) own.1 in
      let from : i ≡ v.from = ap (λ (w : Settled X). w.from) own.1 in
      let number : piece.item.0 ≡ v.link = ap (λ (w : Settled X). w.link) own.1 in
      let hops : u.hops + 1 ≡ v.hops = ap (λ (w : Settled X). w.hops) own.1 in
      not_before before e v no_better
      (λ not_worse.
      not_lower e v (omega arith) (λ _. omega arith)
      (λ _ _.
      not_below l v.link
      (λ less.
      let worse = All-contains (Worse before v) (over t (i, u) (l, k)) e (piece.earlier l (l, k) (omega (arith, at.0)) (slice_get_enumerate N.links l k there)) held in
      true≢false (sym worse ∙ not_worse)))
      (λ _. sym hops))

  module _ (us : List (Settled X)) (i : ℕ) (u : Settled X) where
    -- a way that is offered goes to a station that is not settled
    pub record Offered (v : Settled X) : Type 0 where
      pub goal : ℕ
      pub known : goal < station_count N
      pub over : Over i u goal v

    pub offered_way : (v : Settled X) → Contains (offers before longer N us (i, u)) v → Offered v
    offered_way v held =
        let r = from_piece (offer_to before longer N us (i, u)) (range_with_len 0 (station_count N)) v held in
        let at = in_range (station_count N) r.0 r.1 r.2 in
        let c = in_else (is_settled us r.1) _ v r.3 in
        record { goal = r.1; known = omega (arith, at.0, at.1); over = over_link i u r.1 v (shortest_held before _ v (in_option _ v c.1)) }

    pub offer_held : (t : ℕ) (v : Settled X) → t < station_count N → is_settled us t ≡ false → shortest before (ways_from before longer N t (i, u)) ≡ Some v → Contains (offers before longer N us (i, u)) v
    offer_held t v known fresh is =
        contains_flat_map (offer_to before longer N us (i, u)) (range_with_len 0 (station_count N)) t t v (slice_get_range (station_count N) t known)
        (subst (λ ws. Contains ws v) (sym (cond-false (is_settled us t) [] _ fresh)) (option_in _ v is))

    -- of the ways to t, one is offered that is after none of them
    pub record Soonest (t : ℕ) (e : Settled X) : Type 0 where
      pub way : Settled X
      pub held : Contains (offers before longer N us (i, u)) way
      pub there : way.station ≡ t
      pub soon : way_before before e way ≡ false

    pub soonest : (t l : ℕ) (k : Link) → t < station_count N → is_settled us t ≡ false → slice_get N.links l ≡ Some k → carries k u.station t ≡ true → Soonest t (extended before longer N i u l k t)
    soonest t l k known fresh there carried =
        ⊎_elim
        (λ none. absurd (let held = subst (λ ws. Contains ws (extended before longer N i u l k t)) none (link_over i u t l k there carried) in omega (arith, held.1)))
        (λ some.
        let v = some.0 in
        let way = over_link i u t v (shortest_held before (ways_from before longer N t (i, u)) v some.1) in
        record {
          way = v;
          held = offer_held t v known fresh some.1;
          there = sym (ap (λ (w : Settled X). w.station) way.is);
          soon = best_first i u t v some.1 l k there carried;
        })
        (shortest_cases before (ways_from before longer N t (i, u)))
