-- A transfer that is carried adds its legs to the table, in order, and has a start for each hop.
use Rattle.std.proofs.Common.{◌≡◌, ℕ, suc, ◌+◌, ◌-◌, max, List, [], ◌∷◌, ◌++◌, length, Ok, Err, Result, None, Some, Option, sym, refl, ap, subst, ◌∙◌}
use Rattle.std.proofs.lemmas.List.{append-nil, append_assoc}
use Rattle.model.specs.Bookings.{link_resource}
use Rattle.model.specs.Data.{NetData, transfer_length}
use Rattle.model.specs.declared.booking.Booking.{Booking}
use Rattle.model.specs.declared.refusal.Refusal.{Refusal}
use Rattle.routes.specs.Hops.{hops_of}
use Rattle.routes.specs.Legs.{legs_on, legs_along}
use Rattle.routes.specs.declared.hop.Hop.{Hop}
use Rattle.timetable.specs.Changes.{with_booking}
use Rattle.timetable.specs.Tables.{Table, span}
use Rattle.planner.specs.Chains.{and_then}
use Rattle.planner.specs.Transfers.{ask, Carried, stay, with_start, hop_then, carry_on, carry}

pub ok_same : {A E : Type 0} (x y : A) → ◌≡◌ {A = Result A E} (Ok x) (Ok y) → x ≡ y
ok_same x y e = cc e

-- a chain that comes through has come through each part
pub and_then_ok : {A B : Type 0} (r : Result A Refusal) (next : A → Result B Refusal) (b : B) → and_then r next ≡ Ok b → (a : A) × (r ≡ Ok a) × (next a ≡ Ok b)
and_then_ok (Ok a) next b e = (a, refl, e)
and_then_ok (Err x) next b e = cc e

-- U is T with bs as its newest bookings
pub record Appended (T U : Table) (bs : List Booking) : Type 0 where
  pub horizon : U.horizon ≡ T.horizon
  pub most : U.most ≡ T.most
  pub bookings : U.bookings ≡ T.bookings ++ bs

pub appended_none : (T : Table) → Appended T T []
appended_none T = record { horizon = refl; most = refl; bookings = sym (append-nil T.bookings) }

pub appended_one : (T : Table) (b : Booking) → Appended T (with_booking T b) (b ∷ [])
appended_one T b = record { horizon = refl; most = refl; bookings = refl }

pub appended_both : {T U V : Table} {bs cs : List Booking} → Appended T U bs → Appended U V cs → Appended T V (bs ++ cs)
appended_both {T} {bs = bs} {cs} h k = record {
  horizon = k.horizon ∙ h.horizon;
  most = k.most ∙ h.most;
  bookings = k.bookings ∙ ap (λ xs. xs ++ cs) h.bookings ∙ append_assoc T.bookings bs cs;
}

-- c is what carrying a volume over the hops leaves of T
pub record Legs (N : NetData) (v : ℕ) (hops : List Hop) (T : Table) (c : Carried) : Type 0 where
  pub appended : Appended T c.table (legs_on N v hops c.starts)
  pub counted : length c.starts ≡ length hops

module _ (N : NetData) (v : ℕ) where
  stay_legs : (now : ℕ) (T : Table) → Legs N v [] T (stay now T)
  stay_legs now T = record { appended = appended_none T; counted = refl }

  hop_legs : (h : Hop) (hops : List Hop) (from : ℕ) (T : Table) (rest : ℕ → Table → Result Carried Refusal) (c : Carried) → hop_then h (transfer_length N v h.link) from T rest ≡ Ok c → ((s : ℕ) (U : Table) (d : Carried) → rest s U ≡ Ok d → Legs N v hops U d) → Legs N v (h ∷ hops) T c
  hop_legs h hops from T rest c e legs =
      let one = and_then_ok (ask T (link_resource h.link) from (transfer_length N v h.link)) (λ s. and_then (rest s (with_booking T (span (link_resource h.link) s (transfer_length N v h.link)))) (λ d. Ok (with_start s d))) c e in
      let s = one.0 in
      let U : Table = with_booking T (span (link_resource h.link) s (transfer_length N v h.link)) in
      let two = and_then_ok (rest s U) (λ d. Ok (with_start s d)) c one.2 in
      let later = legs s U two.0 two.1 in
      subst (λ d. Legs N v (h ∷ hops) T d) (ok_same (with_start s two.0) c two.2) (record {
        appended = appended_both (appended_one T (span (link_resource h.link) s (transfer_length N v h.link))) later.appended;
        counted = ap suc later.counted;
      })

  carry_on_legs : (first previous : ℕ) (hops : List Hop) (T : Table) (c : Carried) → carry_on N v first previous hops T ≡ Ok c → Legs N v hops T c
  unfolding carry_on
  carry_on_legs first previous [] T c e = subst (λ d. Legs N v [] T d) (ok_same (stay previous T) c e) (stay_legs previous T)
  carry_on_legs first previous (h ∷ hops) T c e = hop_legs h hops (max first (previous - transfer_length N v h.link)) T (λ s. carry_on N v first (s + transfer_length N v h.link) hops) c e (λ s U d. carry_on_legs first (s + transfer_length N v h.link) hops U d)

  pub carry_legs : (departure : ℕ) (hops : List Hop) (T : Table) (c : Carried) → carry N v departure hops T ≡ Ok c → Legs N v hops T c
  carry_legs departure [] T c e = subst (λ d. Legs N v [] T d) (ok_same (stay departure T) c e) (stay_legs departure T)
  carry_legs departure (h ∷ hops) T c e = hop_legs h hops departure T (λ s. carry_on N v s (s + transfer_length N v h.link) hops) c e (λ s U d. carry_on_legs s (s + transfer_length N v h.link) hops U d)

  -- where there is no route there is no hop
  pub legs_over_hops : (w : Option (List Hop)) (ss : List ℕ) → legs_along N v w ss ≡ legs_on N v (hops_of w) ss
  legs_over_hops None ss = refl
  legs_over_hops (Some hops) ss = refl
