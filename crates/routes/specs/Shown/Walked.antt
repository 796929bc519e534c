-- The tests of a written route say exactly what the laws ask of it.
use Rattle.std.specs.Prelude.{◌≡◌, ℕ, zero, suc, ◌<◌, ◌≤◌, true, false, ◌≢◌, List, [], ◌∷◌, length, Some, refl}
use Rattle.std.proofs.Common.{sym, ap, ◌∙◌, arith}
use Rattle.std.proofs.lemmas.Bool.{and_parts, and_from, or_parts, or_from, not-true, not_from_false, eqb-true, eqb-false, eq-eqb, ne_eqb, leb-true, le-leb}
use Rattle.std.specs.List.{slice_get}
use Rattle.model.specs.Data.{NetData, carries_at}
use Rattle.model.proofs.Firsts.{some≢none}
use Rattle.routes.specs.Hops.{reached}
use Rattle.routes.specs.Laws.{SoundRoute}
use Rattle.routes.specs.Walks.{is_walk, uses, is_fresh, is_route}
use Rattle.routes.specs.declared.hop.Hop.{Hop}

-- each hop's link carries from the station left to the one reached
abbrev Carried : NetData → ℕ → List Hop → Type 0
Carried N s hops = (i : ℕ) (h : Hop) → slice_get hops i ≡ Some h → carries_at N h.link (reached s hops i) h.station ≡ true

-- no link stands twice
abbrev Apart : List Hop → Type 0
Apart hops = (i j : ℕ) (h k : Hop) → i < j → slice_get hops i ≡ Some h → slice_get hops j ≡ Some k → h.link ≢ k.link

walk_ends : (N : NetData) (s t : ℕ) (hops : List Hop) → is_walk N s t hops ≡ true → reached s hops (length hops) ≡ t
walk_ends N s t [] w = eqb-true s t w
walk_ends N s t (h ∷ hops) w = walk_ends N h.station t hops (and_parts _ _ w).1

walk_carried : (N : NetData) (s t : ℕ) (hops : List Hop) → is_walk N s t hops ≡ true → Carried N s hops
walk_carried N s t [] w i h at = absurd (some≢none (sym at))
walk_carried N s t (x ∷ hops) w zero h at =
    let same : x ≡ h = cc in
    ap (λ (k : Hop). carries_at N k.link s k.station) (sym same) ∙ (and_parts _ _ w).0
walk_carried N s t (x ∷ hops) w (suc i) h at = walk_carried N x.station t hops (and_parts _ _ w).1 i h at

pub is_walked : (N : NetData) (s t : ℕ) (hops : List Hop) → reached s hops (length hops) ≡ t → Carried N s hops → is_walk N s t hops ≡ true
is_walked N s t [] ends carried = eq-eqb s t ends
is_walked N s t (x ∷ hops) ends carried =
    and_from _ _ (carried 0 x refl) (is_walked N x.station t hops ends (λ i h at. carried (suc i) h at))

unused : (l : ℕ) (hops : List Hop) → uses l hops ≡ false → (i : ℕ) (h : Hop) → slice_get hops i ≡ Some h → h.link ≢ l
unused l [] u i h at e = some≢none (sym at)
unused l (x ∷ hops) u zero h at e =
    let same : x ≡ h = cc in
    eqb-false x.link l (or_parts _ _ u).0 (ap (λ (k : Hop). k.link) same ∙ e)
unused l (x ∷ hops) u (suc i) h at e = unused l hops (or_parts _ _ u).1 i h at e

not_used : (l : ℕ) (hops : List Hop) → ((i : ℕ) (h : Hop) → slice_get hops i ≡ Some h → h.link ≢ l) → uses l hops ≡ false
not_used l [] none = refl
not_used l (x ∷ hops) none = or_from _ _ (ne_eqb x.link l (none 0 x refl)) (not_used l hops (λ i h at. none (suc i) h at))

fresh_apart : (hops : List Hop) → is_fresh hops ≡ true → Apart hops
fresh_apart [] f i j h k less at_i at_j e = some≢none (sym at_i)
fresh_apart (x ∷ hops) f i zero h k less at_i at_j e = omega arith
fresh_apart (x ∷ hops) f zero (suc j) h k less at_i at_j e =
    let same : x ≡ h = cc in
    unused x.link hops (not-true _ (and_parts _ _ f).0) j k at_j (sym (ap (λ (k : Hop). k.link) same ∙ e))
fresh_apart (x ∷ hops) f (suc i) (suc j) h k less at_i at_j e =
    fresh_apart hops (and_parts _ _ f).1 i j h k (omega arith) at_i at_j e

apart_fresh : (hops : List Hop) → Apart hops → is_fresh hops ≡ true
apart_fresh [] apart = refl
apart_fresh (x ∷ hops) apart =
    and_from _ _ (not_from_false _ (not_used x.link hops (λ i h at e. apart 0 (suc i) x h (omega arith) refl at (sym e))))
    (apart_fresh hops (λ i j h k less at_i at_j. apart (suc i) (suc j) h k (omega arith) at_i at_j))

-- a walk of few hops that uses no link twice is sound
pub walk_sound : (N : NetData) (s t : ℕ) (hops : List Hop) → is_walk N s t hops ≡ true → is_fresh hops ≡ true → length hops ≤ 15 → SoundRoute N s t hops
walk_sound N s t hops walk fresh few = record {
  ends = walk_ends N s t hops walk;
  carried = walk_carried N s t hops walk;
  no_link_twice = fresh_apart hops fresh;
  few_hops = few;
}

pub route_sound : (N : NetData) (s t : ℕ) (hops : List Hop) → is_route N s t hops ≡ true → (1 ≤ length hops) × SoundRoute N s t hops
route_sound N s t hops r =
    let fresh = and_parts _ _ r in
    let walk = and_parts _ _ fresh.0 in
    let long = and_parts _ _ walk.0 in
    (leb-true 1 (length hops) long.0, walk_sound N s t hops walk.1 fresh.1 (leb-true (length hops) 15 long.1))

pub sound_route : (N : NetData) (s t : ℕ) (hops : List Hop) → 1 ≤ length hops → SoundRoute N s t hops → is_route N s t hops ≡ true
sound_route N s t hops some r =
    and_from _ _ (and_from _ _ (and_from _ _ (le-leb 1 (length hops) some) (le-leb (length hops) 15 r.few_hops)) (is_walked N s t hops r.ends r.carried))
    (apart_fresh hops r.no_link_twice)

-- no hop at all leads from a station to itself
pub stays : (N : NetData) (s t : ℕ) → s ≡ t → SoundRoute N s t []
stays N s t e = walk_sound N s t [] (eq-eqb s t e) refl (omega arith)
