-- What the laws give at each hop of a route, for code that walks a route hop by hop.
use Rattle.std.proofs.Common.{◌≡◌, ℕ, zero, suc, ◌+◌, ◌<◌, ◌≤◌, true, List, [], ◌∷◌, length, get_or, drop, Some, None, Option, sym, refl, ap, ◌∙◌, ⊎_elim, add-one, arith}
use Rattle.std.proofs.lemmas.List.{drop_more}
use Rattle.std.proofs.lemmas.Option.{slice_get-get_or, slice_get_past}
use Rattle.std.proofs.lemmas.Bool.{cases_lt, true≢false}
use Rattle.std.specs.Option.{option_map}
use Rattle.std.specs.List.{slice_get}
use Rattle.model.specs.Data.{NetData, station_count, link_count, carries_over, carries_at}
use Rattle.model.proofs.Firsts.{some≢none}
use Rattle.routes.specs.Hops.{hops_of, hop_at, reached}
use Rattle.routes.specs.Laws.{SoundRoute, RouteLaws}
use Rattle.routes.specs.declared.hop.Hop.{Hop}

-- element i is the first of what is left from i
pub at_nth : {X : Type 0} (xs : List X) (i : ℕ) (x : X) → slice_get xs i ≡ Some x → (i < length xs) × (drop i xs ≡ x ∷ drop (i + 1) xs)
at_nth xs i x e =
    ⊎_elim
    (λ h. let same : get_or xs i x ≡ x = cc (slice_get-get_or xs i x h) in (h, drop_more xs i x h ∙ ap (λ y. y ∷ drop (i + 1) xs) same))
    (λ past. absurd (some≢none (sym e ∙ slice_get_past xs i past)))
    (cases_lt i (length xs))

pub not_nth : {X : Type 0} (xs : List X) (i : ℕ) → slice_get xs i ≡ None → length xs ≤ i
not_nth [] i e = omega arith
not_nth (x ∷ xs) zero e = absurd (some≢none e)
not_nth (x ∷ xs) (suc i) e = omega (arith, not_nth xs i e)

-- a route that has a length is there, and has so many hops
pub is_hops : (o : Option (List Hop)) (n : ℕ) → Some n ≡ option_map length o → (o ≡ Some (hops_of o)) × (n ≡ length (hops_of o))
is_hops None n e = absurd (some≢none e)
is_hops (Some hops) n e = (refl, cc)

pub reached_start : (s : ℕ) (hops : List Hop) → reached s hops 0 ≡ s
reached_start s [] = refl
reached_start s (h ∷ hops) = refl

-- after the hop at place i one is at its station
pub reached_next : (s : ℕ) (hops : List Hop) (i : ℕ) (h : Hop) → slice_get hops i ≡ Some h → reached s hops (i + 1) ≡ h.station
reached_next s hops i h at = ap (reached s hops) (add-one i) ∙ go s hops i at
  where
    go : (s : ℕ) (hs : List Hop) (i : ℕ) → slice_get hs i ≡ Some h → reached s hs (suc i) ≡ h.station
    go s [] i at = absurd (some≢none (sym at))
    go s (x ∷ hs) zero at = let same : x ≡ h = cc in reached_start x.station hs ∙ ap (λ (k : Hop). k.station) same
    go s (x ∷ hs) (suc i) at = go x.station hs i at

-- a link that carries anything is one of the network's
pub link_known : (N : NetData) (l a b : ℕ) → carries_at N l a b ≡ true → l < link_count N
link_known N l a b e =
    ⊎_elim (λ h. h)
    (λ past. absurd (true≢false (sym e ∙ ap (λ o. carries_over o a b) (slice_get_past N.links l past))))
    (cases_lt l (link_count N))

module _ (N : NetData) (ρ : ℕ → ℕ → Option (List Hop)) (laws : RouteLaws N ρ) where
  -- a route leads from a station of the network to a station of the network
  pub ends_known : (s t : ℕ) (hops : List Hop) → ρ s t ≡ Some hops → (s < station_count N) × (t < station_count N)
  ends_known s t hops is = (
    ⊎_elim (λ h. h) (λ past. absurd (some≢none (sym is ∙ laws.unknown_origin s t past))) (cases_lt s (station_count N)),
    ⊎_elim (λ h. h) (λ past. absurd (some≢none (sym is ∙ laws.unknown_goal s t past))) (cases_lt t (station_count N)),
  )

  pub sound : (s t : ℕ) (hops : List Hop) → ρ s t ≡ Some hops → SoundRoute N s t hops
  sound s t hops is = let known = ends_known s t hops is in (laws.each_pair s t known.0 known.1).each_route hops is

  -- what a caller of `hop` knows of the hop h at place i of the route from s to t
  pub record Here (s t i : ℕ) (h : Hop) : Type 0 where
    pub early : i < 15
    pub inside : i < length (hops_of (ρ s t))
    pub link_there : h.link < link_count N
    pub carried : carries_at N h.link (reached s (hops_of (ρ s t)) i) h.station ≡ true
    pub next : drop i (hops_of (ρ s t)) ≡ h ∷ drop (i + 1) (hops_of (ρ s t))
    pub arrives : reached s (hops_of (ρ s t)) (i + 1) ≡ h.station

  pub here : (s t i : ℕ) (h : Hop) → hop_at (ρ s t) i ≡ Some h → Here s t i h
  here s t i h at =
      let is = there (ρ s t) at in
      let r = sound s t (hops_of (ρ s t)) is in
      let rest = at_nth (hops_of (ρ s t)) i h at in
      let over = r.carried i h at in
      record {
        early = omega (arith, rest.0, r.few_hops);
        inside = rest.0;
        link_there = link_known N h.link _ _ over;
        carried = over;
        next = rest.1;
        arrives = reached_next s (hops_of (ρ s t)) i h at;
      }
    where
      there : (o : Option (List Hop)) → hop_at o i ≡ Some h → o ≡ Some (hops_of o)
      there None at = absurd (some≢none (sym at))
      there (Some hops) at = refl
