-- The bits of a sheet tell where a resource is free, and a booking that comes or goes changes the bits of its ticks alone.
use Rattle.std.proofs.Common.{◌≡◌, ℕ, ◌+◌, ◌-◌, ◌*◌, ◌/◌, ◌%◌, ◌<◌, ◌≤◌, true, false, List, get_or, nat_lt, sym, ap, ◌∙◌, ⊎_elim, arith}
use Rattle.std.specs.Int.{bit_at}
use Rattle.std.specs.List.{list_any}
use Rattle.std.proofs.lemmas.Bool.{both_ways, cases_lt, false_from_ne_true, ltb-true, lt-ltb}
use Rattle.std.proofs.lemmas.List.Folds.{Any-from_list_any, list_any_at}
use Rattle.model.specs.Bookings.{collide}
use Rattle.model.specs.declared.booking.Booking.{Booking}
use Rattle.timetable.specs.Tables.{span}
use Rattle.timetable.specs.Bits.{bit_of, EachBit, HasSetBit}
use Rattle.timetable.specs.Marks.{tick_bit, takers, AreMarked}
use Rattle.timetable.proofs.Counts.{list_any_count_by}
use Rattle.timetable.proofs.Frees.{collide_in_words}

-- a booking is in the way of a span exactly where it has one of its ticks

tick_shared : (r s d t : ℕ) (b : Booking) → s ≤ t → t < s + d → collide (span r t 1) b ≡ true → collide (span r s d) b ≡ true
tick_shared r s d t b late before e =
    let m = (collide_in_words (span r t 1) b).0 e in
    let at : m.1.0 ≡ t = omega (arith, m.1.1) in
    (collide_in_words (span r s d) b).1 (m.0, (m.1.0, (omega arith, omega arith), m.1.2))

shared_tick : (r s d : ℕ) (b : Booking) → collide (span r s d) b ≡ true → (t : ℕ) × (s ≤ t) × (t < s + d) × (collide (span r t 1) b ≡ true)
shared_tick r s d b e =
    let m = (collide_in_words (span r s d) b).0 e in
    let t = m.1.0 in (
      t,
      m.1.1.0,
      m.1.1.1,
      (collide_in_words (span r t 1) b).1 (m.0, (t, (omega arith, omega arith), m.1.2)),
    )

module _ (bs : List Booking) (r s d : ℕ) where
  pub taken_at : (t : ℕ) → s ≤ t → t < s + d → takers bs r t ≡ 1 → list_any (collide (span r s d)) bs ≡ true
  taken_at t late before e =
      let some : nat_lt 0 (takers bs r t) ≡ true = lt-ltb 0 (takers bs r t) (omega (arith, e)) in
      let any = Any-from_list_any (collide (span r t 1)) bs (list_any_count_by (collide (span r t 1)) bs ∙ some) in
      list_any_at (collide (span r s d)) bs any.0 any.1 any.2
      (ap (collide (span r s d)) any.3 ∙ tick_shared r s d t any.1 late before any.4)

  pub untaken : ((t : ℕ) → s ≤ t → t < s + d → takers bs r t ≡ 0) → list_any (collide (span r s d)) bs ≡ false
  untaken clear =
      false_from_ne_true _ (λ taken.
      let any = Any-from_list_any (collide (span r s d)) bs taken in
      let b = any.1 in
      let tick = shared_tick r s d b any.4 in
      let t = tick.0 in
      let found : list_any (collide (span r t 1)) bs ≡ true = list_any_at (collide (span r t 1)) bs any.0 b any.2 (ap (collide (span r t 1)) any.3 ∙ tick.3) in
      let some : 0 < takers bs r t = ltb-true 0 (takers bs r t) (sym (list_any_count_by (collide (span r t 1)) bs) ∙ found) in
      absurd (omega (arith, clear t tick.1 tick.2, some)))

  pub no_taker : list_any (collide (span r s d)) bs ≡ false → (t : ℕ) → s ≤ t → t < s + d → takers bs r t ≡ 0
  no_taker none t late before =
      ⊎_elim
      (λ some.
      let any = Any-from_list_any (collide (span r t 1)) bs (list_any_count_by (collide (span r t 1)) bs ∙ lt-ltb 0 (takers bs r t) some) in
      absurd (both_ways _ none (list_any_at (collide (span r s d)) bs any.0 any.1 any.2 (ap (collide (span r s d)) any.3 ∙ tick_shared r s d t any.1 late before any.4))))
      (λ zero. omega arith)
      (cases_lt 0 (takers bs r t))

-- the bit of a tick

module _ (words : List ℕ) (w : ℕ) where
  pub tick_bit_is : (r t : ℕ) → tick_bit words w r t ≡ bit_of words (64 * (r * w) + t)
  unfolding bit_of
  tick_bit_is r t =
      let word : r * w + t / 64 ≡ (64 * (r * w) + t) / 64 = omega arith in
      let place : t % 64 ≡ (64 * (r * w) + t) % 64 = omega arith in
      ap (λ k. bit_at (get_or words k 0) (t % 64)) word ∙ ap (bit_at (get_or words ((64 * (r * w) + t) / 64) 0)) place

-- where a resource is free

module _ (words : List ℕ) (w : ℕ) (bs : List Booking) (marked : AreMarked words w bs) (r s d : ℕ) (known : r < 48) (in_time : s + d ≤ 64 * w) where
  takers_are : (t : ℕ) → t < s + d → takers bs r t ≡ bit_of words (64 * (r * w) + t)
  takers_are t before = sym (marked.each r t known (omega arith)) ∙ tick_bit_is words w r t

  pub clear_bits_untaken : EachBit words 0 (64 * (r * w) + s) (64 * (r * w) + s + d) → list_any (collide (span r s d)) bs ≡ false
  clear_bits_untaken clear = untaken bs r s d (λ t late before. takers_are t before ∙ clear (64 * (r * w) + t) (omega arith) (omega arith))

  pub set_bit_taken : HasSetBit words (64 * (r * w) + s) d → list_any (collide (span r s d)) bs ≡ true
  set_bit_taken has =
      let t : ℕ = has.0 - 64 * (r * w) in
      let at : 64 * (r * w) + t ≡ has.0 = omega (arith, has.1) in
      taken_at bs r s d t (omega (arith, has.1)) (omega (arith, has.2)) (takers_are t (omega (arith, has.2)) ∙ ap (bit_of words) at ∙ has.3)
