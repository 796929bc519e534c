-- A transfer that is being booked, hop by hop.
use Rattle.std.proofs.Common.{◌≡◌, ℕ, zero, suc, ◌+◌, ◌-◌, ◌<◌, ◌≤◌, max, Bool, if◌then◌else◌, nat_lt, lt-ltb, List, [], ◌∷◌, ◌++◌, length, drop, Some, None, Ok, Err, Option, Result, refl, sym, ap, subst, ◌∙◌, append_assoc, append-nil, arith}
use Rattle.std.specs.List.{slice_get}
use Rattle.std.proofs.lemmas.Bool.{cond-true}
use Rattle.std.proofs.lemmas.List.{drop_all, length_push}
use Rattle.model.specs.Bookings.{link_resource, end}
use Rattle.model.specs.Data.{NetData, transfer_length}
use Rattle.model.specs.declared.booking.Booking.{Booking}
use Rattle.model.specs.declared.refusal.Refusal.{Refusal}
use Rattle.model.specs.NetworkLimits.{NetworkLimits}
use Rattle.routes.proofs.Along.{here, sound}
use Rattle.routes.specs.Hops.{hop_at, hops_of}
use Rattle.routes.specs.Laws.{RouteLaws}
use Rattle.routes.specs.Legs.{Ways}
use Rattle.routes.specs.declared.hop.Hop.{Hop}
use Rattle.timetable.specs.Changes.{with_booking}
use Rattle.timetable.specs.Tables.{Table}
use Rattle.planner.specs.Booked.{Extends, leg_from, seek_leg, after_starts}
use Rattle.planner.specs.Chains.{and_then}
use Rattle.planner.specs.Transfers.{ask, Carried, stay, with_start, carry_on}
use Rattle.planner.proofs.Fronts.{extends_booking}

-- the hop after as many as there are starts

pub link_of_hop : (N : NetData) (ρ : Ways) → RouteLaws N ρ → NetworkLimits N.stations N.links → (s t k : ℕ) (h : Hop) → Some h ≡ hop_at (ρ s t) k → h.link < 32
link_of_hop N ρ laws limits s t k h at = omega (arith, (here N ρ laws s t k h (sym at)).link_there, limits.few_links)

pub hop_there : (hops : List Hop) (k n : ℕ) (h : Hop) → Some h ≡ slice_get hops k → k ≡ n → slice_get hops n ≡ Some h
hop_there hops k n h at same = ap (slice_get hops) (sym same) ∙ sym at

pub no_hop_there : (hops : List Hop) (k n : ℕ) → None ≡ slice_get hops k → k ≡ n → slice_get hops n ≡ None
no_hop_there hops k n at same = ap (slice_get hops) (sym same) ∙ sym at

pub hop_within : (hops : List Hop) (k : ℕ) (h : Hop) → slice_get hops k ≡ Some h → k < length hops
hop_within [] k h at = cc at
hop_within (g ∷ hops) zero h at = omega arith
hop_within (g ∷ hops) (suc k) h at = omega (arith, hop_within hops k h at)

hop_past : (hops : List Hop) (k : ℕ) → slice_get hops k ≡ None → length hops ≤ k
hop_past [] k at = omega arith
hop_past (g ∷ hops) zero at = cc at
hop_past (g ∷ hops) (suc k) at = omega (arith, hop_past hops k at)

hops_left : (hops : List Hop) (ss : List ℕ) (h : Hop) (s : ℕ) → slice_get hops (length ss) ≡ Some h → drop (length ss) hops ≡ h ∷ drop (length (ss ++ s ∷ [])) hops
hops_left [] ss h s at = cc at
hops_left (g ∷ hops) [] h s at = let same : g ≡ h = cc at in ap (λ x. x ∷ hops) same
hops_left (g ∷ hops) (t ∷ ss) h s at = hops_left hops ss h s at

module _ (N : NetData) (v : ℕ) (h : Hop) where
  leg_answered : (r : Result ℕ Refusal) (b : Booking) → Ok b ≡ and_then r (λ s. Ok (leg_from N v h s)) → (r ≡ Ok b.start) × (b ≡ leg_from N v h b.start)
  leg_answered (Ok s) b e =
      let same : b ≡ leg_from N v h s = cc e in
      let start : s ≡ b.start = sym (ap (λ x. x.start) same) in
      (ap Ok start, same ∙ ap (leg_from N v h) start)
  leg_answered (Err x) b e = cc e

  leg_refused : (r : Result ℕ Refusal) (x : Refusal) → Err x ≡ and_then r (λ s. Ok (leg_from N v h s)) → r ≡ Err x
  leg_refused (Ok s) x e = cc e
  leg_refused (Err y) x e = let same : y ≡ x = cc e in ap Err same

starts_pushed : (ss : List ℕ) (s : ℕ) (r : Result Carried Refusal) → after_starts ss (and_then r (λ c. Ok (with_start s c))) ≡ after_starts (ss ++ s ∷ []) r
starts_pushed ss s (Ok c) = ap (λ l. Ok (record c { starts = l })) (sym (append_assoc ss (s ∷ []) c.starts))
starts_pushed ss s (Err e) = refl

starts_none : (r : Result Carried Refusal) → after_starts [] r ≡ r
starts_none (Ok c) = refl
starts_none (Err e) = refl

module _ (N : NetData) (v first : ℕ) (hops : List Hop) (whole : Result Carried Refusal) (A : Table) (begun : ℕ) where
  -- where a transfer stands after some of its hops; it stood at as many as `begun` in table A
  pub record Underway (ss : List ℕ) (previous : ℕ) (T : Table) : Type 0 where
    pub same : after_starts ss (carry_on N v first previous (drop (length ss) hops) T) ≡ whole
    pub kept : Extends T A
    pub within : length ss ≤ length hops
    pub grown : length T.bookings + begun ≡ length A.bookings + length ss

  -- the step that carry_on takes on a hop
  abbrev onward : Hop → List Hop → Table → ℕ → Result Carried Refusal
  onward h later T s = and_then (carry_on N v first (end (leg_from N v h s)) later (with_booking T (leg_from N v h s))) (λ c. Ok (with_start s c))

  step_on : (h : Hop) (later : List Hop) (T : Table) (ss : List ℕ) (b : Booking) → b ≡ leg_from N v h b.start
      → after_starts ss (onward h later T b.start) ≡ after_starts (ss ++ b.start ∷ []) (carry_on N v first (end b) later (with_booking T b))
  step_on h later T ss b is =
      starts_pushed ss b.start (carry_on N v first (end (leg_from N v h b.start)) later (with_booking T (leg_from N v h b.start)))
      ∙ ap (λ x. after_starts (ss ++ b.start ∷ []) (carry_on N v first (end x) later (with_booking T x))) (sym is)

  opened : (previous : ℕ) (h : Hop) (later : List Hop) (T : Table) → carry_on N v first previous (h ∷ later) T ≡ and_then (ask T (link_resource h.link) (max first (previous - transfer_length N v h.link)) (transfer_length N v h.link)) (onward h later T)
  unfolding carry_on
  opened previous h later T = refl

  closed : (previous : ℕ) (T : Table) → carry_on N v first previous [] T ≡ Ok (stay previous T)
  unfolding carry_on
  closed previous T = refl

  module _ (ss : List ℕ) (previous : ℕ) (T : Table) (u : Underway ss previous T) where
    module _ (h : Hop) (at : slice_get hops (length ss) ≡ Some h) where
      question : Result ℕ Refusal
      question = ask T (link_resource h.link) (max first (previous - transfer_length N v h.link)) (transfer_length N v h.link)

      turned : (s : ℕ) → after_starts ss (and_then question (onward h (drop (length (ss ++ s ∷ [])) hops) T)) ≡ whole
      unfolding question
      turned s =
          sym (ap (after_starts ss) (opened previous h (drop (length (ss ++ s ∷ [])) hops) T))
          ∙ sym (ap (λ l. after_starts ss (carry_on N v first previous l T)) (hops_left hops ss h s at))
          ∙ u.same

      pub has_room : length A.bookings + length hops ≤ A.most + begun → length T.bookings < T.most
      has_room room = omega (arith, room, u.grown, hop_within hops (length ss) h at, ap (λ X. X.most) u.kept)

      pub next : (b : Booking) → Ok b ≡ seek_leg N v h (max first (previous - transfer_length N v h.link)) T → Underway (ss ++ b.start ∷ []) (end b) (with_booking T b)
      unfolding question
      next b answer =
          let is = leg_answered N v h question b answer in
          record {
            same =
                sym (step_on h (drop (length (ss ++ b.start ∷ [])) hops) T ss b is.1)
                ∙ sym (ap (λ r. after_starts ss (and_then r (onward h (drop (length (ss ++ b.start ∷ [])) hops) T))) is.0)
                ∙ turned b.start;
            kept = extends_booking T A b u.kept;
            within = omega (arith, length_push ss b.start, hop_within hops (length ss) h at);
            grown = omega (arith, u.grown, length_push T.bookings b, length_push ss b.start);
          }

      pub stops : (x : Refusal) → Err x ≡ seek_leg N v h (max first (previous - transfer_length N v h.link)) T → Err x ≡ whole
      unfolding question
      stops x refused =
          sym (ap (λ r. after_starts ss (and_then r (onward h (drop (length (ss ++ 0 ∷ [])) hops) T))) (leg_refused N v h question x refused))
          ∙ turned 0

    pub done : slice_get hops (length ss) ≡ None → Ok (record { starts = ss; arrival = previous; table = T }) ≡ whole
    done at =
        ap (λ l. Ok (record { starts = l; arrival = previous; table = T })) (sym (append-nil ss))
        ∙ sym (ap (after_starts ss) (closed previous T))
        ∙ sym (ap (λ l. after_starts ss (carry_on N v first previous l T)) (drop_all (length ss) hops (hop_past hops (length ss) at)))
        ∙ u.same

  -- the same at what the code holds
  pub moves_on : (ss : List ℕ) (previous : ℕ) (T : Table) (ss' : List ℕ) (previous' : ℕ) (T' : Table) → ss' ≡ ss → previous' ≡ previous → T' ≡ T → Underway ss previous T → Underway ss' previous' T'
  moves_on ss previous T ss' previous' T' a b c u =
      subst (λ x. Underway x previous' T') (sym a) (subst (λ x. Underway ss x T') (sym b) (subst (λ x. Underway ss previous x) (sym c) u))

module _ (N : NetData) (ρ : Ways) (laws : RouteLaws N ρ) where
  pub few_hops : (s t : ℕ) → length (hops_of (ρ s t)) ≤ 15
  few_hops s t = go (ρ s t) refl
    where
      go : (o : Option (List Hop)) → ρ s t ≡ o → length (hops_of o) ≤ 15
      go None is = omega arith
      go (Some hops) is = (sound N ρ laws s t hops is).few_hops

-- a start is added to a row with room
pub start_written : (ss ts : List ℕ) (s : ℕ) (ok : Bool) → ts ≡ (if ok then ss ++ s ∷ [] else ss) → ok ≡ nat_lt (length ss) 15 → length ss < 15 → ts ≡ ss ++ s ∷ []
start_written ss ts s ok e fits room = e ∙ cond-true ok _ _ (fits ∙ lt-ltb (length ss) 15 room)
