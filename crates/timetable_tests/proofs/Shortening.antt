-- A timetable that ends early answers as the whole one does, where that answer is early enough.
use Rattle.std.proofs.Common.{◌≡◌, ℕ, ◌+◌, ◌<◌, ◌≤◌, Bool, true, false, Ok, Err, Result, Some, None, sym, ap, ◌∙◌, refl, arith}
use Rattle.std.specs.Bool.{if◌then◌else◌}
use Rattle.std.specs.Result.{is_ok}
use Rattle.std.proofs.lemmas.Bool.{both_ways, false_from_ne_true}
use Rattle.model.specs.Bookings.{end}
use Rattle.model.specs.declared.booking.Booking.{Booking}
use Rattle.model.specs.declared.refusal.Refusal.{Refusal}
use Rattle.model.specs.declared.refusal.Refusal.TheVariants.{NoRoom, NoStart}
use Rattle.timetable.specs.Changes.{is_full, is_free_for, with_booking, booked_answer, booked}
use Rattle.timetable.specs.Earliest.{earliest}
use Rattle.timetable.specs.Tables.{Table, free}
use Rattle.timetable.proofs.Earliests.{earliest_is_first, no_earliest}
use Rattle.timetable.proofs.Frees.{free_in_words}
use Rattle.timetable_tests.specs.Shorter.{until}

module _ (h : ℕ) (T : Table) where
  -- what is free in the short table is early, and free in the whole one; and the other way round

  early : (r s d : ℕ) → free (until h T) r s d ≡ true → s + d ≤ h
  early r s d e = let f = (free_in_words (until h T) r s d).0 e in omega (arith, f.in_time)

  whole : (r s d : ℕ) → free (until h T) r s d ≡ true → free T r s d ≡ true
  whole r s d e =
      let f = (free_in_words (until h T) r s d).0 e in
      (free_in_words T r s d).1 (record { some_tick = f.some_tick; in_time = omega (arith, f.in_time); known = f.known; clear = f.clear })

  short : (r s d : ℕ) → s + d ≤ h → free T r s d ≡ true → free (until h T) r s d ≡ true
  short r s d soon e =
      let f = (free_in_words T r s d).0 e in
      (free_in_words (until h T) r s d).1 (record { some_tick = f.some_tick; in_time = omega (arith, f.in_time, soon); known = f.known; clear = f.clear })

  taken : (r s d : ℕ) → free T r s d ≡ false → free (until h T) r s d ≡ false
  taken r s d e = false_from_ne_true _ (λ t. both_ways _ e (whole r s d t))

  pub none_until : (r from d : ℕ) → earliest T r from d ≡ None → earliest (until h T) r from d ≡ None
  none_until r from d e =
      (no_earliest (until h T) r from d).1 (λ s after. taken r s d ((no_earliest T r from d).0 e s after))

  pub some_until : (r from d s : ℕ) → s + d ≤ h → earliest T r from d ≡ Some s → earliest (until h T) r from d ≡ Some s
  some_until r from d s soon e =
      let first = (earliest_is_first T r from d s).0 e in
      (earliest_is_first (until h T) r from d s).1 (record {
        late_enough = first.late_enough;
        free_there = short r s d soon first.free_there;
        not_before = λ k after before. taken r k d (first.not_before k after before);
      })

  pub late_until : (r from d s : ℕ) → h < s + d → earliest T r from d ≡ Some s → earliest (until h T) r from d ≡ None
  late_until r from d s late e =
      let first = (earliest_is_first T r from d s).0 e in
      (no_earliest (until h T) r from d).1 (λ k after.
      false_from_ne_true _ (λ t.
      let soon = early r k d t in
      both_ways _ (first.not_before k after (omega (arith, soon, late))) (whole r k d t)))

-- a booking

same_free : (h : ℕ) (T : Table) (b : Booking) → end b ≤ h → is_free_for (until h T) b ≡ is_free_for T b
same_free h T b soon = go (is_free_for T b) refl
  where
    go : (c : Bool) → is_free_for T b ≡ c → is_free_for (until h T) b ≡ is_free_for T b
    go true e = short h T b.resource b.start b.length soon e ∙ sym e
    go false e = taken h T b.resource b.start b.length e ∙ sym e

never_free : (h : ℕ) (T : Table) (b : Booking) → h < end b → is_free_for (until h T) b ≡ false
never_free h T b late =
    false_from_ne_true _ (λ t. let soon = early h T b.resource b.start b.length t in absurd (omega (arith, soon, late)))

until_if : (h : ℕ) (c : Bool) (T U : Table) → until h (if c then T else U) ≡ (if c then until h T else until h U)
until_if h true T U = refl
until_if h false T U = refl

abbrev answer : Table → Booking → Bool → Result (Unit {0}) Refusal
answer T b c = if is_full T then Err (NoRoom 1) else (if c then Ok tt else Err (NoStart b.resource))

pub late_answer : (h : ℕ) (T : Table) (b : Booking) → h < end b → is_full T ≡ false → booked_answer (until h T) b ≡ Err (NoStart b.resource)
late_answer h T b late room =
    ap (answer T b) (never_free h T b late)
    ∙ ap (λ c. if c then Err (NoRoom 1) else Err (NoStart b.resource)) room

pub soon_answer : (h : ℕ) (T : Table) (b : Booking) → end b ≤ h → booked_answer (until h T) b ≡ booked_answer T b
soon_answer h T b soon = ap (answer T b) (same_free h T b soon)

pub late_table : (h : ℕ) (T : Table) (b : Booking) → h < end b → is_full T ≡ false → booked (until h T) b ≡ until h T
late_table h T b late room =
    ap (λ a. if is_ok a then with_booking (until h T) b else until h T) (late_answer h T b late room)

pub soon_table : (h : ℕ) (T : Table) (b : Booking) → end b ≤ h → booked (until h T) b ≡ until h (booked T b)
soon_table h T b soon =
    ap (λ a. if is_ok a then with_booking (until h T) b else until h T) (soon_answer h T b soon)
    ∙ sym (until_if h (is_ok (booked_answer T b)) (with_booking T b) T)
