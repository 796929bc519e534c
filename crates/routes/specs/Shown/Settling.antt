-- Proofs on lists of stations that are settled in the order of the search; no definition to read stands here.
use Rattle.std.specs.Prelude.{◌≡◌, ◌≢◌, ℕ, zero, suc, ◌<◌, ◌≤◌, Bool, true, false, List, [], ◌∷◌, eqb, get_or, map, length, take, Some, ◌==◌, refl}
use Rattle.std.specs.List.{slice_get, list_any}
use Rattle.std.proofs.Common.{sym, ap, ◌∙◌, subst, ⊎_elim, arith}
use Rattle.std.proofs.lemmas.Bool.{or_cases, eqb-true, eq-eqb, false_from_ne_true, both_ways, ne_eqb}
use Rattle.std.proofs.lemmas.Option.{same_Some, slice_get-get_or}
use Rattle.std.proofs.lemmas.Map.Keys.{any_passes_from_place, IsDistinct-from_apart}
use Rattle.std.proofs.lemmas.Map.Steps.{length-le_from_distinct_below}
use Rattle.std.proofs.lemmas.List.{length-map, get_or-map}
use Rattle.std.proofs.lemmas.List.Folds.{Any-from_list_any}
use Rattle.model.specs.Data.{NetData, station_count}
use Rattle.model.specs.declared.network.Link.{Link}
use Rattle.routes.specs.Best.{LastHop, NextBest}
use Rattle.routes.specs.Shown.Reading.{slice_get_take, within_take}
use Rattle.routes.specs.Search.{source, is_settled}
use Rattle.routes.specs.declared.settled.Settled.{Settled}

-- the stations that are settled

module _ {X : Type 0} where
  pub settled_at : (us : List (Settled X)) (i : ℕ) (a : Settled X) → slice_get us i ≡ Some a → is_settled us a.station ≡ true
  settled_at us i a at = any_passes_from_place (λ (u : Settled X). u.station == a.station) us i a at (eq-eqb a.station a.station refl)

  pub settled_place : (us : List (Settled X)) (t : ℕ) → is_settled us t ≡ true → (i : ℕ) × (a : Settled X) × (slice_get us i ≡ Some a) × (a.station ≡ t)
  settled_place [] t e = cc
  settled_place (u ∷ us) t e =
      ⊎_elim (λ here. (0, u, refl, eqb-true u.station t here)) (λ there. let r = settled_place us t there in (suc r.0, r.1, r.2, r.3))
      (or_cases (u.station == t) (is_settled us t) e)

  pub not_settled : (us : List (Settled X)) (t i : ℕ) (a : Settled X) → is_settled us t ≡ false → slice_get us i ≡ Some a → a.station ≢ t
  not_settled us t i a fresh at same = both_ways (is_settled us t) fresh (subst (λ s. is_settled us s ≡ true) same (settled_at us i a at))

  -- what is not settled was not settled earlier
  pub fresh_earlier : (us : List (Settled X)) (t i j : ℕ) → i ≤ j → is_settled (take j us) t ≡ false → is_settled (take i us) t ≡ false
  fresh_earlier us t i j le fresh =
      false_from_ne_true (is_settled (take i us) t)
      (λ e.
      let r = settled_place (take i us) t e in
      let w = within_take i us r.0 r.1 r.2 in
      not_settled (take j us) t r.0 r.1 fresh (slice_get_take j us r.0 (omega (arith, w.0)) ∙ w.1) r.3)

abbrev stations_of : {X : Type 0} → List (Settled X) → List ℕ
stations_of {X} us = map (λ (u : Settled X). u.station) us

module _ {X : Type 0} (before : X → X → Bool) (longer : X → Link → X) (N : NetData) (start : X) (s : ℕ) where
  -- us are settled from s in the order of the search; there may be more to come
  pub record Settling (us : List (Settled X)) : Type 0 where
    pub begins : slice_get us 0 ≡ Some (source start s)
    pub next : (i : ℕ) (a : Settled X) → slice_get us (suc i) ≡ Some a → NextBest before longer N (take (suc i) us) a
    pub reached : (i : ℕ) (a : Settled X) → slice_get us (suc i) ≡ Some a → LastHop before longer N (take (suc i) us) a

  module _ (us : List (Settled X)) (p : Settling us) where
    -- each is one of the network's stations
    pub station_known : s < station_count N → (i : ℕ) (a : Settled X) → slice_get us i ≡ Some a → a.station < station_count N
    station_known known zero a at = let same = same_Some (source start s) a (sym p.begins ∙ at) in let is : s ≡ a.station = ap (λ (w : Settled X). w.station) same in omega arith
    station_known known (suc i) a at = (p.next i a at).known

    -- a later one is of another station
    pub later_differs : (i j : ℕ) (a b : Settled X) → i < j → slice_get us i ≡ Some a → slice_get us j ≡ Some b → a.station ≢ b.station
    later_differs i zero a b less at_i at_j = absurd (omega arith)
    later_differs i (suc j) a b less at_i at_j = not_settled (take (suc j) us) b.station i a (p.next j b at_j).fresh (slice_get_take (suc j) us i less ∙ at_i)

    apart : (i j d : ℕ) → i < j → j < length (stations_of us) → eqb (get_or (stations_of us) i d) (get_or (stations_of us) j d) ≡ false
    apart i j d less within =
        let none = source start s in
        let long : j < length us = simp length-map at within in
        let low : i < length us = omega arith in
        let a = get_or us i none in
        let b = get_or us j none in
        let a_is = get_or-map (λ (u : Settled X). u.station) us i none d low in
        let b_is = get_or-map (λ (u : Settled X). u.station) us j none d long in
        ne_eqb _ _ (λ e. later_differs i j a b less (slice_get-get_or us i none low) (slice_get-get_or us j none long) (sym a_is ∙ e ∙ b_is))

    below : s < station_count N → (q : ℕ) → list_any (eqb q) (stations_of us) ≡ true → q < station_count N
    below known q e =
        let none = source start s in
        let r = Any-from_list_any (eqb q) (stations_of us) e in
        let within : r.0 < length us = simp length-map at r.2 in
        let a = get_or us r.0 none in
        let same = eqb-true q r.1 r.4 in
        let is : r.1 ≡ a.station = sym r.3 ∙ get_or-map (λ (u : Settled X). u.station) us r.0 none r.1 within in
        subst (λ t. t < station_count N) (sym (same ∙ is)) (station_known known r.0 a (slice_get-get_or us r.0 none within))

    -- so there are no more than the network has
    pub no_more : s < station_count N → length us ≤ station_count N
    no_more known =
        simp length-map at (length-le_from_distinct_below (stations_of us) (station_count N) (IsDistinct-from_apart eqb (stations_of us) apart) (below known))
