-- Proofs that a route among settled stations is the way to one of them; no definition to read stands here.
use Rattle.std.specs.Prelude.{◌≡◌, ℕ, suc, Bool, false, List, [], ◌∷◌, Some, None, Option, ◌==◌, refl}
use Rattle.std.specs.Option.{option_map}
use Rattle.std.specs.List.{slice_get, find}
use Rattle.std.proofs.Common.{◌⊎◌, sym, ap, ◌∙◌, inl, inr, ⊎_elim}
use Rattle.std.proofs.lemmas.Bool.{cases_Bool, cond-true, cond-false, eqb-true, or_from}
use Rattle.std.proofs.lemmas.Option.{none-some, same_Some}
use Rattle.routes.specs.Search.{is_settled, way_to, route_among}
use Rattle.routes.specs.declared.hop.Hop.{Hop}
use Rattle.routes.specs.declared.settled.Settled.{Settled}

module _ {X : Type 0} where
  abbrev is_at : ℕ → Settled X → Bool
  is_at t u = u.station == t

  -- the station that is found is settled at some place
  pub found_at : (us : List (Settled X)) (t : ℕ) (a : Settled X) → find (is_at t) us ≡ Some a → (i : ℕ) × (slice_get us i ≡ Some a) × (a.station ≡ t)
  found_at [] t a e = absurd (none-some a e)
  found_at (u ∷ us) t a e =
      ⊎_elim
      (λ here.
      let same = same_Some u a (sym (cond-true (is_at t u) (Some u) (find (is_at t) us) here) ∙ e) in
      (0, ap Some same, ap (λ (w : Settled X). w.station) (sym same) ∙ eqb-true u.station t here))
      (λ other. let r = found_at us t a (sym (cond-false (is_at t u) (Some u) (find (is_at t) us) other) ∙ e) in (suc r.0, r.1, r.2))
      (cases_Bool (is_at t u))

  none_found : (us : List (Settled X)) (t : ℕ) → find (is_at t) us ≡ None → is_settled us t ≡ false
  none_found [] t e = refl
  none_found (u ∷ us) t e =
      ⊎_elim (λ here. absurd (none-some u (sym e ∙ cond-true (is_at t u) (Some u) (find (is_at t) us) here)))
      (λ other. or_from (is_at t u) (is_settled us t) other (none_found us t (sym (cond-false (is_at t u) (Some u) (find (is_at t) us) other) ∙ e)))
      (cases_Bool (is_at t u))

  -- the hops are those of the way to station t, which is settled
  pub record WayTo (us : List (Settled X)) (t : ℕ) (hops : List Hop) : Type 0 where
    pub place : ℕ
    pub settled : Settled X
    pub there : slice_get us place ≡ Some settled
    pub at : settled.station ≡ t
    pub way : way_to us settled ≡ hops

  way_found : (us : List (Settled X)) (t : ℕ) (hops : List Hop) (o : Option (Settled X)) → find (is_at t) us ≡ o → option_map (way_to us) o ≡ Some hops → WayTo us t hops
  way_found us t hops None e is = absurd (none-some hops is)
  way_found us t hops (Some a) e is =
      let r = found_at us t a e in
      record { place = r.0; settled = a; there = r.1; at = r.2; way = same_Some (way_to us a) hops is }

  pub route_way : (us : List (Settled X)) (t : ℕ) (hops : List Hop) → route_among us t ≡ Some hops → WayTo us t hops
  route_way us t hops is = way_found us t hops (find (is_at t) us) refl is

  -- where there is no route, the station is not settled
  not_found : (us : List (Settled X)) (t : ℕ) (o : Option (Settled X)) → find (is_at t) us ≡ o → option_map (way_to us) o ≡ None → is_settled us t ≡ false
  not_found us t None e is = none_found us t e
  not_found us t (Some a) e is = absurd (none-some (way_to us a) (sym is))

  pub no_route : (us : List (Settled X)) (t : ℕ) → route_among us t ≡ None → is_settled us t ≡ false
  no_route us t is = not_found us t (find (is_at t) us) refl is

  -- whether there is one or not
  pub route_cases : (us : List (Settled X)) (t : ℕ) → (route_among us t ≡ None) ⊎ ((hops : List Hop) × (route_among us t ≡ Some hops))
  route_cases us t = option_cases (route_among us t)
    where
      option_cases : (o : Option (List Hop)) → (o ≡ None) ⊎ ((hops : List Hop) × (o ≡ Some hops))
      option_cases None = inl refl
      option_cases (Some hops) = inr (hops, refl)
