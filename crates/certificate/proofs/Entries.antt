-- A ledger: the bookings of a table, each with the task or the edge that it is for.
use Rattle.std.proofs.Common.{◌≡◌, ℕ, zero, suc, ◌+◌, ◌<◌, ◌≤◌, true, false, ◌≢◌, ◌⊎◌, List, [], ◌∷◌, ◌++◌, map, length, get_or, Contains, Some, sym, refl, ap, ◌∙◌, subst, inl, inr, ⊎_elim, arith}
use Rattle.std.specs.List.{list_any}
use Rattle.std.proofs.lemmas.List.{map_push}
use Rattle.std.proofs.lemmas.List.Elements.{All-contains}
use Rattle.std.proofs.lemmas.List.Folds.{Any-from_list_any}
use Rattle.std.proofs.lemmas.Bool.{both_ways, true_from_ne_false, eqb-true, and_parts}
use Rattle.model.specs.Bookings.{end, collide}
use Rattle.model.specs.declared.booking.Booking.{Booking}
use Rattle.timetable.specs.Apart.{Apart}
use Rattle.timetable.specs.Changes.{with_booking}
use Rattle.timetable.specs.Earliest.{earliest}
use Rattle.timetable.specs.Laws.{IsFree}
use Rattle.timetable.specs.Tables.{Table, span, free}
use Rattle.timetable.proofs.Earliests.{earliest_is_first}
use Rattle.timetable.proofs.Frees.{apart_from_test, test_from_apart, clear_from_test, free_in_words}
use Rattle.timetable.proofs.Sounds.{apart_turned}

-- x is an element; by recursion, so that its cases compute
abbrev pub In : {A : Type 0} → A → List A → Type 0
In x [] = ⊥
In x (y ∷ ys) = (y ≡ x) ⊎ In x ys

pub contains_in : {A : Type 0} (x : A) (xs : List A) → In x xs → Contains xs x
contains_in x [] h = absurd h
contains_in x (y ∷ ys) (inl e) = (0, omega arith, e)
contains_in x (y ∷ ys) (inr h) = let c = contains_in x ys h in (suc c.0, omega (arith, c.1), c.2)

in_at : {A : Type 0} (x : A) (xs : List A) (k : ℕ) → k < length xs → get_or xs k x ≡ x → In x xs
in_at x [] k within e = absurd (omega arith)
in_at x (y ∷ ys) zero within e = inl e
in_at x (y ∷ ys) (suc k) within e = inr (in_at x ys k (omega arith) e)

pub in_contains : {A : Type 0} (x : A) (xs : List A) → Contains xs x → In x xs
in_contains x xs c = in_at x xs c.0 c.1 c.2

pub in_push_old : {A : Type 0} (x y : A) (xs : List A) → In x xs → In x (xs ++ y ∷ [])
in_push_old x y [] h = absurd h
in_push_old x y (z ∷ zs) (inl e) = inl e
in_push_old x y (z ∷ zs) (inr h) = inr (in_push_old x y zs h)

pub in_push_new : {A : Type 0} (y : A) (xs : List A) → In y (xs ++ y ∷ [])
in_push_new y [] = inl refl
in_push_new y (z ∷ zs) = inr (in_push_new y zs)

pub in_push_cases : {A : Type 0} (x y : A) (xs : List A) → In x (xs ++ y ∷ []) → In x xs ⊎ (y ≡ x)
in_push_cases x y [] (inl e) = inr e
in_push_cases x y [] (inr h) = absurd h
in_push_cases x y (z ∷ zs) (inl e) = inl (inl e)
in_push_cases x y (z ∷ zs) (inr h) = ⊎_elim (λ k. inl (inr k)) (λ e. inr e) (in_push_cases x y zs h)

in_map : {A B : Type 0} (f : A → B) (x : A) (xs : List A) → In x xs → In (f x) (map f xs)
in_map f x [] h = absurd h
in_map f x (y ∷ ys) (inl e) = inl (ap f e)
in_map f x (y ∷ ys) (inr h) = inr (in_map f x ys h)

from_map : {A B : Type 0} (f : A → B) (b : B) (xs : List A) → In b (map f xs) → (x : A) × In x xs × (f x ≡ b)
from_map f b [] h = absurd h
from_map f b (y ∷ ys) (inl e) = (y, inl refl, e)
from_map f b (y ∷ ys) (inr h) = let r = from_map f b ys h in (r.0, inr r.1, r.2)

-- whom a booking is for
pub data Owner : Type 0 where
  task : ℕ → Owner
  edge : ℕ → Owner

pub record Entry : Type 0 where
  pub owner : Owner
  pub booking : Booking

abbrev pub own : Owner → Booking → Entry
own o b = record { owner = o; booking = b }

abbrev pub booking_of : Entry → Booking
booking_of x = x.booking

pub collide_turned : (a b : Booking) → collide a b ≡ false → collide b a ≡ false
collide_turned a b h = test_from_apart b a (apart_turned a b (apart_from_test a b h))

pub collide_swap : (a b : Booking) → collide a b ≡ true → collide b a ≡ true
collide_swap a b h = true_from_ne_false _ (λ n. both_ways _ (collide_turned b a n) h)

-- bookings of two owners do not collide, and all end by the horizon
pub record Sound (H : ℕ) (L : List Entry) : Type 0 where
  pub apart : (x y : Entry) → In x L → In y L → x.owner ≢ y.owner → collide x.booking y.booking ≡ false
  pub within : (x : Entry) → In x L → end x.booking ≤ H

pub sound_push : (H : ℕ) (L : List Entry) (y : Entry) → Sound H L → ((x : Entry) → In x L → collide x.booking y.booking ≡ false) → end y.booking ≤ H → Sound H (L ++ y ∷ [])
sound_push H L y h quiet l = record { apart = apart'; within = within' }
  where
    apart' : (x z : Entry) → In x (L ++ y ∷ []) → In z (L ++ y ∷ []) → x.owner ≢ z.owner → collide x.booking z.booking ≡ false
    apart' x z i j n = elim (in_push_cases x y L i) [
      | inl a ↦ elim (in_push_cases z y L j) [
        | inl b ↦ h.apart x z a b n
        | inr e ↦ subst (λ w. collide x.booking w.booking ≡ false) e (quiet x a)
      ]
      | inr e ↦ elim (in_push_cases z y L j) [
        | inl b ↦ subst (λ w. collide w.booking z.booking ≡ false) e (collide_turned z.booking y.booking (quiet z b))
        | inr f ↦ absurd (n (ap (λ w. w.owner) (sym e ∙ f)))
      ]
    ]

    within' : (x : Entry) → In x (L ++ y ∷ []) → end x.booking ≤ H
    within' x i = elim (in_push_cases x y L i) [
      | inl a ↦ h.within x a
      | inr e ↦ subst (λ w. end w.booking ≤ H) e l
    ]

-- some booking of the list is in the way
abbrev pub Taken : List Booking → ℕ → ℕ → ℕ → Type 0
Taken bs r s d = (b : Booking) × In b bs × (collide b (span r s d) ≡ true)

-- what an earliest start tells
pub record Found (T : Table) (r f d s : ℕ) : Type 0 where
  pub late : f ≤ s
  pub within : s + d ≤ T.horizon
  pub quiet : (b : Booking) → In b T.bookings → collide b (span r s d) ≡ false
  pub busy : (k : ℕ) → f ≤ k → k < s → Taken T.bookings r k d

-- at an earlier start than a free one only a booking can be in the way
taken_before : (T : Table) (r d k s : ℕ) → IsFree T r s d → k < s → free T r k d ≡ false → Taken T.bookings r k d
taken_before T r d k s at_s before not_free =
    let hit = Any-from_list_any (collide (span r k d)) T.bookings (true_from_ne_false _ (λ none. both_ways _ not_free (free_at none))) in
    (hit.1, in_contains hit.1 T.bookings (hit.0, hit.2, hit.3), collide_swap (span r k d) hit.1 hit.4)
  where
    free_at : list_any (collide (span r k d)) T.bookings ≡ false → free T r k d ≡ true
    free_at none =
        (free_in_words T r k d).1 (record {
          some_tick = at_s.some_tick;
          in_time = omega (arith, at_s.in_time);
          known = at_s.known;
          clear = clear_from_test (span r k d) T.bookings none;
        })

pub found : (T : Table) (r f d s : ℕ) → earliest T r f d ≡ Some s → Found T r f d s
found T r f d s e =
    let first = (earliest_is_first T r f d s).0 e in
    let at_s = (free_in_words T r s d).0 first.free_there in
    record {
      late = first.late_enough;
      within = at_s.in_time;
      quiet = λ b there. collide_turned (span r s d) b (test_from_apart (span r s d) b (All-contains (Apart (span r s d)) T.bookings b at_s.clear (contains_in b T.bookings there)));
      busy = λ k here before. taken_before T r d k s at_s before (first.not_before k here before);
    }

-- an entry of another owner is in the way
pub record Busy (L : List Entry) (o : Owner) (r s d : ℕ) : Type 0 where
  pub entry : Entry
  pub stands : In entry L
  pub other : entry.owner ≢ o
  pub hit : collide entry.booking (span r s d) ≡ true

-- each entry of L is one of L'
abbrev pub Within : List Entry → List Entry → Type 0
Within L L' = (x : Entry) → In x L → In x L'

pub busy_grows : {L L' : List Entry} {o : Owner} {r s d : ℕ} → Within L L' → Busy L o r s d → Busy L' o r s d
busy_grows w h = record { entry = h.entry; stands = w h.entry h.stands; other = h.other; hit = h.hit }

-- the table's bookings are the ledger's, and sound
pub record Ledger (T : Table) (L : List Entry) : Type 0 where
  pub is : map booking_of L ≡ T.bookings
  pub sound : Sound T.horizon L

pub ledger_push : (T : Table) (L : List Entry) (o : Owner) (b : Booking) (f : ℕ) → Ledger T L → Found T b.resource f b.length b.start → Ledger (with_booking T b) (L ++ own o b ∷ [])
ledger_push T L o b f h k = record {
  is = map_push booking_of L (own o b) ∙ ap (λ bs. bs ++ b ∷ []) h.is;
  sound = sound_push T.horizon L (own o b) h.sound (λ x i. k.quiet x.booking (subst (λ bs. In x.booking bs) h.is (in_map booking_of x L i))) k.within;
}

-- before an earliest start an entry is in the way
pub blocked : (T : Table) (L : List Entry) (r f d s : ℕ) → Ledger T L → Found T r f d s → (k : ℕ) → f ≤ k → k < s → (x : Entry) × In x L × (collide x.booking (span r k d) ≡ true)
blocked T L r f d s h w k a b =
    let taken = w.busy k a b in
    let x = from_map booking_of taken.0 L (subst (λ bs. In taken.0 bs) (sym h.is) taken.1) in
    (x.0, x.1, subst (λ c. collide c (span r k d) ≡ true) (sym x.2) taken.2)

pub hit_resource : (b : Booking) (r s d : ℕ) → collide b (span r s d) ≡ true → b.resource ≡ r
hit_resource b r s d h = eqb-true _ _ (and_parts _ _ h).0
