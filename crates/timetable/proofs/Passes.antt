-- Bookings in order: the place of another one among them, and a pass that moves its start to the end of each that is in the way.
use Rattle.std.proofs.Common.{◌≡◌, ℕ, ◌+◌, ◌<◌, ◌≤◌, true, false, List, length, get_or, All, AllPairs, subst, ⊎_elim, arith}
use Rattle.std.specs.List.{list_any, insert}
use Rattle.std.specs.List.Sorted.{IsPartitionedBy, IsPartitionPoint}
use Rattle.std.proofs.lemmas.Bool.{both_ways, cases_lt, false_from_ne_true}
use Rattle.std.proofs.lemmas.Bool.Decides.{nat_tests}
use Rattle.std.proofs.lemmas.List.{get_or_default}
use Rattle.std.proofs.lemmas.List.Folds.{list_any_none, list_any_at}
use Rattle.model.specs.Bookings.{end, collide}
use Rattle.model.specs.declared.booking.Booking.{Booking}
use Rattle.timetable.specs.Order.{precedes}
use Rattle.timetable.specs.Tables.{span}
use Rattle.timetable.proofs.Orders.{all_pairs_insert}

-- two bookings

precedes_over : (a b c : Booking) → precedes a b ≡ true → precedes b c ≡ true → precedes a c ≡ true
precedes_over a b c first second = grind (arith, nat_tests)

apart_from_earlier : (a b : Booking) → precedes b a ≡ true → collide a b ≡ false
apart_from_earlier a b before = grind (arith, nat_tests)

apart_from_later : (a b : Booking) → precedes a b ≡ true → collide a b ≡ false
apart_from_later a b before = grind (arith, nat_tests)

-- two that do not collide are in order
turned : (a b : Booking) → 1 ≤ a.length → 1 ≤ b.length → collide a b ≡ false → precedes b a ≡ false → precedes a b ≡ true
turned a b long long' apart not_before = grind (arith, nat_tests)

-- and two that are not in order collide
met : (a b : Booking) → 1 ≤ a.length → 1 ≤ b.length → precedes a b ≡ false → precedes b a ≡ false → collide a b ≡ true
met a b long long' not_before not_after = grind (arith, nat_tests)

not_before_itself : (a : Booking) → 1 ≤ a.length → precedes a a ≡ false
not_before_itself a some = grind (arith, nat_tests)

later : (b : Booking) (r s k d : ℕ) → collide (span r s d) b ≡ true → s ≤ k → k < end b → collide (span r k d) b ≡ true
later b r s k d e late before = grind (arith, nat_tests)

moves_on : (b : Booking) (r s d : ℕ) → collide (span r s d) b ≡ true → s ≤ end b
moves_on b r s d e = grind (arith, nat_tests)

before_its_end : (b : Booking) (r s d : ℕ) → collide (span r s d) b ≡ true → precedes b (span r (end b) d) ≡ true
before_its_end b r s d e = grind (arith, nat_tests)

not_before_an_end : (a b : Booking) (r s d : ℕ) → collide (span r s d) a ≡ true → precedes a b ≡ true → 1 ≤ b.length → precedes b (span r (end a) d) ≡ false
not_before_an_end a b r s d e before some = grind (arith, nat_tests)

-- all of them

abbrev pub InOrder : List Booking → Type 0
InOrder bs = AllPairs (λ a b. precedes a b ≡ true) bs

abbrev pub SomeTicks : List Booking → Type 0
SomeTicks bs = All (λ (b : Booking). 1 ≤ b.length) bs

-- those before place i precede w, and the others do not
abbrev pub IsPlace : Booking → List Booking → ℕ → Type 0
IsPlace w bs i = IsPartitionPoint (λ b. precedes b w ≡ true) (λ b. precedes b w ≡ false) bs i

module _ (bs : List Booking) (sorted : InOrder bs) (some : SomeTicks bs) where
  pub parted : (w : Booking) → IsPartitionedBy (λ b. precedes b w) bs
  parted w i j d before within there =
      ⊎_elim
      (λ less. precedes_over (get_or bs i d) (get_or bs j d) w (sorted i j d less within) there)
      (λ not_less. let same : i ≡ j = omega arith in rw same there)
      (cases_lt i j)

  -- a booking that collides with none stays in order at its place
  pub in_order_placed : (w : Booking) (i : ℕ) → 1 ≤ w.length → i ≤ length bs → IsPlace w bs i → list_any (collide w) bs ≡ false → InOrder (insert bs i w)
  in_order_placed w i long within place clear =
      all_pairs_insert bs i w within (λ a b. precedes a b ≡ true) sorted
      (λ k d before. place.0 k d (omega arith) before)
      (λ k d behind inside. turned w (get_or bs k d) long (some k d inside) (false_from_ne_true _ (λ e. both_ways _ clear (list_any_at (collide w) bs k d inside e))) (place.1 k d behind inside))

  -- one of the bookings stands at its place
  pub stands_at_place : (w : Booking) (i : ℕ) → IsPlace w bs i → (k : ℕ) → k < length bs → get_or bs k w ≡ w → k ≡ i
  stands_at_place w i place k inside at =
      let long : 1 ≤ w.length = subst (λ (b : Booking). 1 ≤ b.length) at (some k w inside) in
      let never = not_before_itself w long in
      ⊎_elim
      (λ less. absurd (both_ways _ never (subst (λ b. precedes b w ≡ true) at (place.0 k w (omega arith) less))))
      (λ not_less. ⊎_elim
      (λ more. absurd (both_ways _ (place.1 i w (omega arith) (omega arith)) (subst (λ b. precedes (get_or bs i w) b ≡ true) at (sorted i k w more inside))))
      (λ not_more. omega arith)
      (cases_lt i k))
      (cases_lt k i)

  -- a booking that precedes the one at its place collides with none
  pub clear_at_place : (w : Booking) (i : ℕ) (z : Booking) → IsPlace w bs i → (i < length bs → precedes w (get_or bs i z) ≡ true) → list_any (collide w) bs ≡ false
  clear_at_place w i z place first =
      list_any_none (collide w) bs (λ k d inside.
      ⊎_elim
      (λ less. apart_from_earlier w (get_or bs k d) (place.0 k d (omega arith) less))
      (λ not_less.
      let here : precedes w (get_or bs i d) ≡ true = rw (get_or_default bs i d z (omega arith)) (first (omega arith)) in
      apart_from_later w (get_or bs k d) (⊎_elim
      (λ more. precedes_over w (get_or bs i d) (get_or bs k d) here (sorted i k d more inside))
      (λ not_more. let same : k ≡ i = omega arith in rw same here)
      (cases_lt i k)))
      (cases_lt k i))

  -- one that does not, collides with it
  met_at_place : (w : Booking) (i : ℕ) (z : Booking) → 1 ≤ w.length → IsPlace w bs i → i < length bs → precedes w (get_or bs i z) ≡ false → collide w (get_or bs i z) ≡ true
  met_at_place w i z long place within not_before = met w (get_or bs i z) long (some i z within) not_before (place.1 i z (omega arith) within)

  -- and the end of that one has the next place
  moved_place : (r s d i : ℕ) (z : Booking) → i < length bs → IsPlace (span r s d) bs i → collide (span r s d) (get_or bs i z) ≡ true → IsPlace (span r (end (get_or bs i z)) d) bs (i + 1)
  moved_place r s d i z within place met =
      let b = get_or bs i z in (
        λ k x low high.
            ⊎_elim
            (λ less. precedes_over (get_or bs k x) b (span r (end b) d) (rw (get_or_default bs i z x within) (sorted k i x less within)) (before_its_end b r s d met))
            (λ not_less. let same : k ≡ i = omega arith in rw (same, get_or_default bs i x z within) (before_its_end b r s d met))
            (cases_lt k i),
        λ k x low high.
            not_before_an_end b (get_or bs k x) r s d met (rw (get_or_default bs i z x within) (sorted i k x (omega arith) high)) (some k x high),
      )

-- the start is s, at place i, and none that was left behind is clear of all
pub record Passed (bs : List Booking) (r d from i s : ℕ) : Type 0 where
  pub late_enough : from ≤ s
  pub not_before : (k : ℕ) → from ≤ k → k < s → list_any (collide (span r k d)) bs ≡ true
  pub place : IsPlace (span r s d) bs i

module _ (bs : List Booking) (sorted : InOrder bs) (some : SomeTicks bs) (r d from i s : ℕ) (z : Booking) (long : 1 ≤ d) (within : i < length bs) (passed : Passed bs r d from i s) where
  -- up to the end of a booking that is in the way, no start is clear
  taken_up_to_end : collide (span r s d) (get_or bs i z) ≡ true → (k : ℕ) → from ≤ k → k < end (get_or bs i z) → list_any (collide (span r k d)) bs ≡ true
  taken_up_to_end met k late before =
      ⊎_elim
      (λ left_behind. passed.not_before k late left_behind)
      (λ not_behind. list_any_at (collide (span r k d)) bs i z within (later (get_or bs i z) r s k d met not_behind before))
      (cases_lt k s)

  -- and the start moves to its end
  pub passed_moved : precedes (span r s d) (get_or bs i z) ≡ false → Passed bs r d from (i + 1) (end (get_or bs i z))
  passed_moved not_before =
      let here = met_at_place bs sorted some (span r s d) i z long passed.place within not_before in
      record {
        late_enough = omega (arith, passed.late_enough, moves_on (get_or bs i z) r s d here);
        not_before = taken_up_to_end here;
        place = moved_place bs sorted some r s d i z within passed.place here;
      }
