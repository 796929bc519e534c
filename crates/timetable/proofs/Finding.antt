-- The first start that is clear of the bookings tells whether a resource is free, and from when on.
use Rattle.std.proofs.Common.{◌≡◌, ℕ, ◌+◌, ◌<◌, ◌≤◌, Bool, true, false, List, count_by, Some, None, Option, nat_eq, sym, refl, ap, ◌∙◌, ⊎_elim, arith}
use Rattle.std.specs.List.{list_any}
use Rattle.std.specs.Option.{option_eq}
use Rattle.std.proofs.lemmas.Bool.{both_ways, cases_lt, cases_eq, eq-eqb, ne_eqb}
use Rattle.model.specs.Bookings.{collide}
use Rattle.model.specs.declared.booking.Booking.{Booking}
use Rattle.timetable.specs.Tables.{Table, span, free}
use Rattle.timetable.specs.Earliest.{earliest}
use Rattle.timetable.proofs.Counts.{list_any_same}
use Rattle.timetable.proofs.Earliests.{first_words, words_first, none_words, words_none}
use Rattle.timetable.proofs.Frees.{clear_from_test, test_from_clear, free_from_words, not_free}

-- what the tests of `free` make of it

pub free_clear : (T : Table) (r s d : ℕ) → 1 ≤ d → s + d ≤ T.horizon → r ≤ 47 → list_any (collide (span r s d)) T.bookings ≡ false → free T r s d ≡ true
free_clear T r s d some in_time known clear =
    free_from_words T r s d (record { some_tick = some; in_time = in_time; known = known; clear = clear_from_test _ _ clear })

pub not_free_taken : (T : Table) (r s d : ℕ) → list_any (collide (span r s d)) T.bookings ≡ true → free T r s d ≡ false
not_free_taken T r s d taken = not_free T r s d (λ f. both_ways _ (test_from_clear _ _ f.clear) taken)

pub not_free_nothing : (T : Table) (r s d : ℕ) → d ≡ 0 → free T r s d ≡ false
not_free_nothing T r s d none = not_free T r s d (λ f. absurd (omega (arith, f.some_tick)))

pub not_free_late : (T : Table) (r s d : ℕ) → T.horizon < s + d → free T r s d ≡ false
not_free_late T r s d late = not_free T r s d (λ f. absurd (omega (arith, f.in_time)))

pub not_free_unknown : (T : Table) (r s d : ℕ) → 47 < r → free T r s d ≡ false
not_free_unknown T r s d unknown = not_free T r s d (λ f. absurd (omega (arith, f.known)))

-- the earliest start at or after s is s exactly if the resource is free there
pub free_earliest : (T : Table) (r s d : ℕ) → option_eq nat_eq (earliest T r s d) (Some s) ≡ free T r s d
free_earliest T r s d = go (earliest T r s d) refl
  where
    go : (o : Option ℕ) → earliest T r s d ≡ o → option_eq nat_eq o (Some s) ≡ free T r s d
    go None e = sym (none_words T r d s e s (omega arith))
    go (Some k) e =
        let first = first_words T r d s k e in
        ⊎_elim
        (λ at. eq-eqb k s at ∙ sym (ap (λ t. free T r t d) (sym at) ∙ first.free_there))
        (λ away. ne_eqb k s away ∙ sym (first.not_before s (omega arith) (omega (arith, away, first.late_enough))))
        (cases_eq k s)

-- no start before c is clear, of a list with the bookings of the table
module _ (T : Table) (ys : List Booking) (same : (p : Booking → Bool) → count_by p ys ≡ count_by p T.bookings) (r from d c : ℕ) (not_before : (k : ℕ) → from ≤ k → k < c → list_any (collide (span r k d)) ys ≡ true) where
  taken_before : (k : ℕ) → from ≤ k → k < c → free T r k d ≡ false
  taken_before k here before =
      not_free_taken T r k d (sym (list_any_same T.bookings ys same (collide (span r k d))) ∙ not_before k here before)

  pub earliest_none : T.horizon < c + d → earliest T r from d ≡ None
  earliest_none past =
      words_none T r d from (λ s here. ⊎_elim (taken_before s here) (λ behind. not_free_late T r s d (omega arith)) (cases_lt s c))

  -- and c is
  pub earliest_first : from ≤ c → list_any (collide (span r c d)) ys ≡ false → 1 ≤ d → c + d ≤ T.horizon → r ≤ 47 → earliest T r from d ≡ Some c
  earliest_first late clear some in_time known =
      let clear_here = sym (list_any_same T.bookings ys same (collide (span r c d))) ∙ clear in
      words_first T r d from c (record { late_enough = late; free_there = free_clear T r c d some in_time known clear_here; not_before = taken_before })
