-- Proofs on the hops of the way to a settled station, from its last hop back; no definition to read stands here.
use Rattle.std.specs.Prelude.{◌≡◌, ℕ, zero, suc, ◌+◌, ◌<◌, ◌≤◌, Bool, true, List, [], ◌∷◌, ◌++◌, length, Some, refl}
use Rattle.std.specs.List.{slice_get}
use Rattle.std.specs.Option.{option_map_or}
use Rattle.std.proofs.Common.{sym, ap, ◌∙◌, subst, add-one, arith}
use Rattle.std.proofs.lemmas.Bool.{and_from, and_parts, eq-eqb, eqb-true}
use Rattle.std.proofs.lemmas.List.{length_push}
use Rattle.std.proofs.lemmas.Option.{same_Some}
use Rattle.model.specs.Data.{NetData, carries_over, carries_at}
use Rattle.model.specs.declared.network.Link.{Link}
use Rattle.routes.specs.Best.{longer_over, walk_length}
use Rattle.routes.specs.Shown.Distances.{Reached, reached_from}
use Rattle.routes.specs.Search.{source, last_hop, hops_back, way_to}
use Rattle.routes.specs.Shown.Settling.{Settling}
use Rattle.routes.specs.Walks.{is_walk}
use Rattle.routes.specs.declared.hop.Hop.{Hop}
use Rattle.routes.specs.declared.settled.Settled.{Settled}

-- one hop more at the end of a walk

pub is_walk_push : (N : NetData) (s v t : ℕ) (hops : List Hop) (h : Hop) → is_walk N s v hops ≡ true → carries_at N h.link v h.station ≡ true → h.station ≡ t → is_walk N s t (hops ++ h ∷ []) ≡ true
is_walk_push N s v t [] h walk carried ends =
    let at : s ≡ v = eqb-true s v walk in
    and_from _ _ (subst (λ u. carries_at N h.link u h.station ≡ true) (sym at) carried) (eq-eqb h.station t ends)
is_walk_push N s v t (x ∷ hops) h walk carried ends =
    let parts = and_parts _ _ walk in
    and_from _ _ parts.0 (is_walk_push N x.station v t hops h parts.1 carried ends)

pub walk_length_push : {X : Type 0} (before : X → X → Bool) (longer : X → Link → X) (N : NetData) (x : X) (hops : List Hop) (h : Hop)
    → walk_length before longer N x (hops ++ h ∷ []) ≡ longer_over before longer N (walk_length before longer N x hops) (slice_get N.links h.link)
walk_length_push before longer N x [] h = refl
walk_length_push before longer N x (g ∷ hops) h = walk_length_push before longer N (longer_over before longer N x (slice_get N.links g.link)) hops h

-- the way to a goes on from that to its origin
pub way_more : {X : Type 0} (us : List (Settled X)) (a u : Settled X) → slice_get us a.from ≡ Some u → a.hops ≡ u.hops + 1 → way_to us a ≡ way_to us u ++ last_hop a ∷ []
unfolding hops_back
way_more us a u at hops =
    ap (λ n. hops_back us n a) (hops ∙ add-one u.hops) ∙ ap (λ o. option_map_or (hops_back us u.hops) o [] ++ last_hop a ∷ []) at

pub way_source : {X : Type 0} (us : List (Settled X)) (start : X) (s : ℕ) → way_to us (source start s) ≡ []
unfolding hops_back
way_source us start s = refl

module _ {X : Type 0} (before : X → X → Bool) (longer : X → Link → X) (N : NetData) (start : X) (s : ℕ) (us : List (Settled X)) (p : Settling before longer N start s us) where
  -- what holds of the source, and of each station if of its origin, holds of all
  module _ (P : ℕ → Settled X → Type 0) (base : P 0 (source start s)) (step : (i : ℕ) (a : Settled X) (r : Reached before longer N start s us p i a) → slice_get us (suc i) ≡ Some a → P a.from r.hop.origin → P (suc i) a) where
    along_by : (bound i : ℕ) (a : Settled X) → i < bound → slice_get us i ≡ Some a → P i a
    along_by zero i a small at = absurd (omega arith)
    along_by (suc bound) zero a small at = subst (P 0) (same_Some (source start s) a (sym p.begins ∙ at)) base
    along_by (suc bound) (suc i) a small at =
        let r = reached_from before longer N start s us p i a at in
        step i a r at (along_by bound a.from r.hop.origin (omega (arith, r.from)) r.leads.settled)

    pub along : (i : ℕ) (a : Settled X) → slice_get us i ≡ Some a → P i a
    along i a at = along_by (suc i) i a (omega arith) at

  pub way_step : (i : ℕ) (a : Settled X) (r : Reached before longer N start s us p i a) → way_to us a ≡ way_to us r.hop.origin ++ last_hop a ∷ []
  way_step i a r = way_more us a r.hop.origin r.leads.settled r.hop.hops

  -- the way to a station is a walk there
  pub way_walk : (i : ℕ) (a : Settled X) → slice_get us i ≡ Some a → is_walk N s a.station (way_to us a) ≡ true
  way_walk =
      along (λ i a. is_walk N s a.station (way_to us a) ≡ true)
      (ap (is_walk N s s) (way_source us start s) ∙ eq-eqb s s refl)
      (λ i a r at walk.
      ap (is_walk N s a.station) (way_step i a r)
      ∙ is_walk_push N s r.hop.origin.station a.station (way_to us r.hop.origin) (last_hop a) walk (ap (λ o. carries_over o r.hop.origin.station a.station) r.leads.link ∙ r.leads.carried) refl)

  -- of the length that is noted
  pub way_length_is : (i : ℕ) (a : Settled X) → slice_get us i ≡ Some a → walk_length before longer N start (way_to us a) ≡ a.distance
  way_length_is =
      along (λ i a. walk_length before longer N start (way_to us a) ≡ a.distance)
      (ap (walk_length before longer N start) (way_source us start s))
      (λ i a r at same.
      ap (walk_length before longer N start) (way_step i a r)
      ∙ walk_length_push before longer N start (way_to us r.hop.origin) (last_hop a)
      ∙ ap (longer_over before longer N (walk_length before longer N start (way_to us r.hop.origin))) r.leads.link
      ∙ ap (λ x. longer x r.hop.over) same
      ∙ sym r.hop.distance)

  -- of no more hops than stations were settled before
  pub way_short : (i : ℕ) (a : Settled X) → slice_get us i ≡ Some a → length (way_to us a) ≤ i
  way_short =
      along (λ i a. length (way_to us a) ≤ i)
      (omega (arith, ap length (way_source us start s)))
      (λ i a r at short. omega (arith, ap length (way_step i a r), length_push (way_to us r.hop.origin) (last_hop a), r.from, short))
