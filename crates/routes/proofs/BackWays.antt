-- Walking back from a settled station: each step leaves one hop fewer, and the hops before it are the same.
use Rattle.std.proofs.Common.{◌≡◌, ℕ, zero, suc, ◌+◌, ◌<◌, ◌≤◌, Bool, List, [], ◌∷◌, ◌++◌, length, Some, None, Option, refl, sym, ap, ◌∙◌, arith, get_or, ⊎_elim}
use Rattle.std.specs.Prelude.{◌==◌, nat_lt}
use Rattle.std.proofs.lemmas.Bool.{cases_Bool, cond_both, cond-true, cond-false}
use Rattle.std.specs.Option.{MatchOption, option_map}
use Rattle.std.specs.List.{slice_get, find}
use Rattle.std.proofs.lemmas.List.{length_push}
use Rattle.std.proofs.lemmas.Option.{none-some, slice_get_within, slice_get-get_or}
use Rattle.model.specs.Data.{NetData, station_count}
use Rattle.model.specs.declared.network.Link.{Link}
use Rattle.queue.specs.Orders.{IsStrictTotalOrder}
use Rattle.routes.specs.Hops.{hop_at}
use Rattle.routes.specs.Origins.{HasOrigin, HasOrigins, search_known}
use Rattle.routes.specs.Shown.Reading.{slice_get_before_push}
use Rattle.routes.specs.Shown.RoutesAmong.{found_at}
use Rattle.routes.specs.Shown.Distances.{reached_from}
use Rattle.routes.specs.Search.{source, search_order, last_hop, hops_back, way_to, route_among, searched_route}
use Rattle.routes.specs.Shown.Settling.{Settling}
use Rattle.routes.specs.Shown.Turns.{settling}
use Rattle.routes.specs.Shown.WaysBack.{way_more}
use Rattle.routes.specs.declared.settled.Settled.{Settled}
use Rattle.std.proofs.lemmas.Option.{same_Some}

pub slice_get_push : {A : Type 0} (xs : List A) (x : A) → slice_get (xs ++ x ∷ []) (length xs) ≡ Some x
slice_get_push [] x = refl
slice_get_push (y ∷ ys) x = slice_get_push ys x

module _ {X : Type 0} (us : List (Settled X)) where
  -- the way has as many hops as are noted
  pub way_long : HasOrigins us → (n i : ℕ) (a : Settled X) → a.hops ≡ n → slice_get us i ≡ Some a → length (way_to us a) ≡ n
  unfolding hops_back
  way_long h zero i a none at = ap (λ k. length (hops_back us k a)) none
  way_long h (suc n) i a some at =
      let o = h.each i a at (omega arith) in
      let fewer : o.origin.hops ≡ n = omega (arith, o.hops) in
      ap length (way_more us a o.origin o.there o.hops)
      ∙ length_push (way_to us o.origin) (last_hop a)
      ∙ ap (λ k. k + 1) (way_long h n a.from o.origin fewer o.there)
      ∙ omega arith

  -- the last hop, and the hops before it
  pub last_of_way : HasOrigins us → (i : ℕ) (a : Settled X) (o : HasOrigin us a) → slice_get us i ≡ Some a → slice_get (way_to us a) o.origin.hops ≡ Some (last_hop a)
  last_of_way h i a o at =
      let long = way_long h o.origin.hops a.from o.origin refl o.there in
      ap (λ w. slice_get w o.origin.hops) (way_more us a o.origin o.there o.hops)
      ∙ ap (slice_get (way_to us o.origin ++ last_hop a ∷ [])) (sym long)
      ∙ slice_get_push (way_to us o.origin) (last_hop a)

  pub before_last : HasOrigins us → (k i : ℕ) (a : Settled X) (o : HasOrigin us a) → slice_get us k ≡ Some a → i < o.origin.hops → slice_get (way_to us a) i ≡ slice_get (way_to us o.origin) i
  before_last h k i a o at less =
      let long = way_long h o.origin.hops a.from o.origin refl o.there in
      ap (λ w. slice_get w i) (way_more us a o.origin o.there o.hops) ∙ slice_get_before_push (way_to us o.origin) (last_hop a) i (omega arith)

  -- what stands at the place a comes from
  pub at_origin : (a r : Settled X) (o : HasOrigin us a) → r ≡ get_or us a.from r → r ≡ o.origin
  at_origin a r o is =
      is ∙ same_Some _ _ (sym (slice_get-get_or us a.from r (slice_get_within us a.from o.origin o.there)) ∙ o.there)

  -- the hop asked of the way to the station that is found
  pub hop_found : (t i : ℕ) (a : Settled X) → Some a ≡ find (λ (u : Settled X). u.station == t) us → hop_at (route_among us t) i ≡ slice_get (way_to us a) i
  hop_found t i a found = ap (λ o. hop_at (option_map (way_to us) o) i) (sym found)

module _ {X : Type 0} (before : X → X → Bool) (longer : X → Link → X) (N : NetData) (start : X) (s : ℕ) (us : List (Settled X)) (p : Settling before longer N start s us) where
  -- stations settled in order can be walked back from
  origin_at : (i : ℕ) (a : Settled X) → slice_get us i ≡ Some a → 1 ≤ a.hops → HasOrigin us a
  origin_at zero a at some = let same = same_Some (source start s) a (sym p.begins ∙ at) in let none : 0 ≡ a.hops = ap (λ (w : Settled X). w.hops) same in absurd (omega arith)
  origin_at (suc i) a at some = let r = reached_from before longer N start s us p i a at in record { origin = r.hop.origin; there = r.leads.settled; hops = r.hop.hops }

  pub settling_origins : HasOrigins us
  settling_origins = record { each = origin_at }

module _ {X : Type 0} (before : X → X → Bool) (longer : X → Link → X) (N : NetData) (start : X) (order : IsStrictTotalOrder before) where
  no_origins : HasOrigins {X = X} []
  no_origins = record { each = λ i a at. absurd (none-some a at) }

  -- what is settled from any station can be walked back from
  pub known_origins : (s : ℕ) → HasOrigins (search_known before longer N start s)
  known_origins s =
      cond_both (nat_lt s (station_count N)) (search_order before longer N start s) [] HasOrigins
      (λ _. settling_origins before longer N start s (search_order before longer N start s) (settling before longer N start s order (station_count N)))
      (λ _. no_origins)

  -- and says the routes from it
  pub route_known : (s t : ℕ) → route_among (search_known before longer N start s) t ≡ searched_route before longer N start s t
  route_known s t =
      ⊎_elim
      (λ known. ap (λ us. route_among us t) (cond-true _ _ _ known) ∙ sym (cond-true _ _ _ known))
      (λ unknown. ap (λ us. route_among us t) (cond-false _ _ _ unknown) ∙ sym (cond-false _ _ _ unknown))
      (cases_Bool (nat_lt s (station_count N)))

  -- a station that is found is reached by as many hops as it notes
  pub length_found : (s t : ℕ) (a : Settled X) → Some a ≡ find (λ (u : Settled X). u.station == t) (search_known before longer N start s) → Some a.hops ≡ option_map length (searched_route before longer N start s t)
  length_found s t a found =
      let us = search_known before longer N start s in
      let r = found_at us t a (sym found) in
      ap Some (sym (way_long us (known_origins s) a.hops r.0 a refl r.1))
      ∙ ap (λ o. option_map length (option_map (way_to us) o)) found
      ∙ ap (option_map length) (route_known s t)

  pub none_found : (s t : ℕ) → None ≡ find (λ (u : Settled X). u.station == t) (search_known before longer N start s) → None ≡ option_map length (searched_route before longer N start s t)
  none_found s t found =
      let us = search_known before longer N start s in
      ap (λ o. option_map length (option_map (way_to us) o)) found ∙ ap (option_map length) (route_known s t)

  -- what is read of the station that is found, if one is
  pub length_read : (s t : ℕ) (o : Option (Settled X)) (r : Option ℕ) → o ≡ find (λ (u : Settled X). u.station == t) (search_known before longer N start s) → MatchOption o (r ≡ None) (λ a. r ≡ Some a.hops) → r ≡ option_map length (searched_route before longer N start s t)
  length_read s t None r found is = is ∙ none_found s t found
  length_read s t (Some a) r found is = is ∙ length_found s t a found
