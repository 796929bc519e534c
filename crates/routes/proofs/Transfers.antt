-- A transfer's booking on hop k, from the hop and the start; and how many there are.
use Rattle.std.proofs.Common.{◌≡◌, ℕ, zero, suc, ◌+◌, min, List, [], ◌∷◌, length, Some, None, Option, unwrap_or, sym, refl, ap, ◌∙◌, ap₂, arith}
use Rattle.std.specs.Option.{option_map}
use Rattle.std.specs.List.{slice_get}
use Rattle.model.specs.Data.{JobData, NetData, transfer_length}
use Rattle.model.specs.Plans.{PlanData, starts}
use Rattle.model.specs.declared.booking.Booking.{Booking}
use Rattle.model.specs.declared.job.Edge.{Edge}
use Rattle.model.proofs.Firsts.{some≢none}
use Rattle.routes.specs.Hops.{hop_at}
use Rattle.routes.specs.Legs.{Ways, way, legs_on, legs_along, legs_at, legs}
use Rattle.routes.specs.declared.hop.Hop.{Hop}

module _ (N : NetData) (v : ℕ) where
  abbrev pub booked : ℕ → ℕ → Booking
  booked l s = record { resource = 16 + l; start = s; length = transfer_length N v l }

  legs_no_hop : (hs : List Hop) (ss : List ℕ) (k : ℕ) → slice_get hs k ≡ None → slice_get (legs_on N v hs ss) k ≡ None
  legs_no_hop [] ss k e = refl
  legs_no_hop (h ∷ hs) [] k e = refl
  legs_no_hop (h ∷ hs) (s ∷ ss) zero e = absurd (some≢none e)
  legs_no_hop (h ∷ hs) (s ∷ ss) (suc k) e = legs_no_hop hs ss k e

  no_start : (hs : List Hop) (ss : List ℕ) (k : ℕ) → slice_get ss k ≡ None → slice_get (legs_on N v hs ss) k ≡ None
  no_start [] ss k e = refl
  no_start (h ∷ hs) [] k e = refl
  no_start (h ∷ hs) (s ∷ ss) zero e = absurd (some≢none e)
  no_start (h ∷ hs) (s ∷ ss) (suc k) e = no_start hs ss k e

  both : (hs : List Hop) (ss : List ℕ) (k : ℕ) (h : Hop) (s : ℕ) → slice_get hs k ≡ Some h → slice_get ss k ≡ Some s → slice_get (legs_on N v hs ss) k ≡ Some (booked h.link s)
  both [] ss k h s e f = absurd (some≢none (sym e))
  both (x ∷ hs) [] k h s e f = absurd (some≢none (sym f))
  both (x ∷ hs) (y ∷ ss) zero h s e f =
      let a : x ≡ h = cc in
      let b : y ≡ s = cc in
      ap₂ (λ (z : Hop) (t : ℕ). Some (booked z.link t)) a b
  both (x ∷ hs) (y ∷ ss) (suc k) h s e f = both hs ss k h s e f

  pub way_no_hop : (w : Option (List Hop)) (ss : List ℕ) (k : ℕ) → hop_at w k ≡ None → slice_get (legs_along N v w ss) k ≡ None
  way_no_hop None ss k e = refl
  way_no_hop (Some hs) ss k e = legs_no_hop hs ss k e

  pub way_no_start : (w : Option (List Hop)) (ss : List ℕ) (k : ℕ) → slice_get ss k ≡ None → slice_get (legs_along N v w ss) k ≡ None
  way_no_start None ss k e = refl
  way_no_start (Some hs) ss k e = no_start hs ss k e

  pub way_both : (w : Option (List Hop)) (ss : List ℕ) (k : ℕ) (h : Hop) (s : ℕ) → hop_at w k ≡ Some h → slice_get ss k ≡ Some s → slice_get (legs_along N v w ss) k ≡ Some (booked h.link s)
  way_both None ss k h s e f = absurd (some≢none (sym e))
  way_both (Some hs) ss k h s e f = both hs ss k h s e f

-- the transfer of an edge goes by its way
module _ (J : JobData) (N : NetData) (ρ : Ways) (P : PlanData) (i : ℕ) (e : Edge) (w : Option (List Hop)) (k : ℕ) (edge : Some e ≡ slice_get J.edges i) (by : way ρ P e ≡ w) where
  by_way : slice_get (legs J N ρ P i) k ≡ slice_get (legs_along N e.volume w (starts P i)) k
  by_way = ap (λ o. slice_get (legs_at N ρ P i o) k) (sym edge) ∙ ap (λ v. slice_get (legs_along N e.volume v (starts P i)) k) by

  pub leg_no_hop : None ≡ hop_at w k → slice_get (legs J N ρ P i) k ≡ None
  leg_no_hop h = by_way ∙ way_no_hop N e.volume w (starts P i) k (sym h)

  pub leg_no_start : None ≡ slice_get (starts P i) k → slice_get (legs J N ρ P i) k ≡ None
  leg_no_start h = by_way ∙ way_no_start N e.volume w (starts P i) k (sym h)

  pub leg_both : (h : Hop) (s d : ℕ) → Some h ≡ hop_at w k → Some s ≡ slice_get (starts P i) k → d ≡ transfer_length N e.volume h.link → slice_get (legs J N ρ P i) k ≡ Some (record { resource = 16 + h.link; start = s; length = d })
  leg_both h s d x y z = by_way ∙ way_both N e.volume w (starts P i) k h s (sym x) (sym y) ∙ ap (λ n. Some (record { resource = 16 + h.link; start = s; length = n })) (sym z)

-- as many bookings as there are both hops and starts
legs_count : (N : NetData) (v : ℕ) (hs : List Hop) (ss : List ℕ) → length (legs_on N v hs ss) ≡ min (length hs) (length ss)
legs_count N v [] ss = omega arith
legs_count N v (h ∷ hs) [] = omega arith
legs_count N v (h ∷ hs) (s ∷ ss) = omega (arith, legs_count N v hs ss)

way_count : (N : NetData) (v : ℕ) (w : Option (List Hop)) (ss : List ℕ) → length (legs_along N v w ss) ≡ min (unwrap_or (option_map length w) 0) (length ss)
way_count N v None ss = omega arith
way_count N v (Some hs) ss = legs_count N v hs ss

pub legs_counted : (J : JobData) (N : NetData) (ρ : Ways) (P : PlanData) (i : ℕ) (e : Edge) (n : Option ℕ) → Some e ≡ slice_get J.edges i → n ≡ option_map length (way ρ P e) → length (legs J N ρ P i) ≡ min (unwrap_or n 0) (length (starts P i))
legs_counted J N ρ P i e n a b = ap (λ o. length (legs_at N ρ P i o)) (sym a) ∙ way_count N e.volume (way ρ P e) (starts P i) ∙ ap (λ o. min (unwrap_or o 0) (length (starts P i))) (sym b)
