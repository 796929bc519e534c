-- When a resource is free, in words, with one booking more or fewer, and by its own bookings alone.
use Rattle.std.proofs.Common.{◌≡◌, ℕ, ◌+◌, max, true, false, not, ◌&&◌, List, [], ◌∷◌, ◌++◌, All, Contains, ◌==◌, nat_le, sym, ap, ◌∙◌, arith}
use Rattle.std.specs.List.{list_any}
use Rattle.std.proofs.lemmas.Bool.{both_ways, not-true, not_from_false, ltb-true, leb-true, eqb-true, lt-ltb, le-leb, eq-eqb, and_parts, and_from, false_from_ne_true}
use Rattle.std.proofs.lemmas.List.Folds.{list_any_none, list_any_at}
use Rattle.std.proofs.lemmas.List.Elements.{All-contains, All-push, Contains-get_or, Contains-append_left, Contains-push}
use Rattle.std.proofs.lemmas.Map.Views.{any-filter_same}
use Rattle.model.specs.Bookings.{collide}
use Rattle.model.specs.declared.booking.Booking.{Booking}
use Rattle.timetable.specs.Tables.{Table, bookings_of, span, free}
use Rattle.timetable.specs.Changes.{with_booking}
use Rattle.timetable.specs.Apart.{Apart}
use Rattle.timetable.specs.Laws.{CollideInWords, IsFree, FreeInWords, FreeWithOneMore, FreeAmongFewer, FreeByItsOwn}

pub collide_in_words : CollideInWords
collide_in_words a b = (
  λ e.
      let parts = and_parts _ _ e in
      let share = ltb-true _ _ parts.1 in
      (eqb-true _ _ parts.0, (max a.start b.start, (omega arith, omega arith), (omega arith, omega arith))),
  λ m. and_from _ _ (eq-eqb _ _ m.0) (lt-ltb _ _ (omega (arith, m.1.1, m.1.2))),
)

pub apart_from_test : (a b : Booking) → collide a b ≡ false → Apart a b
apart_from_test a b e = λ m. both_ways (collide a b) e ((collide_in_words a b).1 m)

pub test_from_apart : (a b : Booking) → Apart a b → collide a b ≡ false
test_from_apart a b h = false_from_ne_true _ (λ e. h ((collide_in_words a b).0 e))

-- no booking of the list is in the way of b

pub clear_from_test : (b : Booking) (bs : List Booking) → list_any (collide b) bs ≡ false → All (Apart b) bs
clear_from_test b bs none = λ k d within. apart_from_test b _ (false_from_ne_true _ (λ e. both_ways _ none (list_any_at (collide b) bs k d within e)))

pub test_from_clear : (b : Booking) (bs : List Booking) → All (Apart b) bs → list_any (collide b) bs ≡ false
test_from_clear b bs clear = list_any_none (collide b) bs (λ k d within. test_from_apart b _ (clear k d within))

-- the parts of `free`

pub free_in_words : FreeInWords
unfolding free
free_in_words T r s d = (
  λ e.
      let last = and_parts _ _ e in
      let third = and_parts _ _ last.0 in
      let first = and_parts _ _ third.0 in
      record {
        some_tick = leb-true _ _ first.0;
        in_time = leb-true _ _ first.1;
        known = leb-true _ _ third.1;
        clear = clear_from_test _ _ (not-true _ last.1);
      },
  λ f.
      and_from _ _ (and_from _ _ (and_from _ _ (le-leb _ _ f.some_tick) (le-leb _ _ f.in_time)) (le-leb _ _ f.known))
      (not_from_false _ (test_from_clear _ _ f.clear)),
)

pub free_from_words : (T : Table) (r s d : ℕ) → IsFree T r s d → free T r s d ≡ true
free_from_words T r s d = (free_in_words T r s d).1

pub words_from_free : (T : Table) (r s d : ℕ) → free T r s d ≡ true → IsFree T r s d
words_from_free T r s d = (free_in_words T r s d).0

-- what is not free in words is not free
pub not_free : (T : Table) (r s d : ℕ) → (IsFree T r s d → ⊥) → free T r s d ≡ false
not_free T r s d h = false_from_ne_true _ (λ e. h (words_from_free T r s d e))

pub free_with_one_more : FreeWithOneMore
free_with_one_more T b r s d = (
  λ e.
      let f = words_from_free (with_booking T b) r s d e in
      let P : Booking → Type 0 = Apart (span r s d) in
      let each = λ (x : Booking) (there : Contains (T.bookings ++ b ∷ []) x). All-contains P (T.bookings ++ b ∷ []) x f.clear there in (
        free_from_words T r s d (record {
          some_tick = f.some_tick;
          in_time = f.in_time;
          known = f.known;
          clear = λ k x within. each _ (Contains-append_left T.bookings (b ∷ []) _ (Contains-get_or T.bookings k x within));
        }),
        each b (Contains-push T.bookings b),
      ),
  λ (e, apart).
      let f = words_from_free T r s d e in
      free_from_words (with_booking T b) r s d (record {
        some_tick = f.some_tick;
        in_time = f.in_time;
        known = f.known;
        clear = All-push (Apart (span r s d)) T.bookings b f.clear apart;
      }),
)

pub free_among_fewer : FreeAmongFewer
free_among_fewer T U r s d same all e =
    let f = words_from_free U r s d e in
    free_from_words T r s d (record {
      some_tick = f.some_tick;
      in_time = omega (arith, same, f.in_time);
      known = f.known;
      clear = λ k x within. All-contains (Apart (span r s d)) U.bookings _ f.clear (all _ (Contains-get_or T.bookings k x within));
    })

-- a booking that is in the way is one of the resource
own_bookings : (T : Table) (r s d : ℕ) → list_any (collide (span r s d)) (bookings_of T r) ≡ list_any (collide (span r s d)) T.bookings
own_bookings T r s d =
    any-filter_same (collide (span r s d)) (λ b. b.resource == r) true (λ b e. eq-eqb b.resource r (sym (eqb-true r b.resource (and_parts _ _ e).0))) T.bookings

pub free_by_its_own : FreeByItsOwn
unfolding free
free_by_its_own T U r s d same own =
    let test = collide (span r s d) in
    let taken : list_any test T.bookings ≡ list_any test U.bookings = sym (own_bookings T r s d) ∙ ap (list_any test) own ∙ own_bookings U r s d in
    ap (λ h. nat_le 1 d && nat_le (s + d) h && nat_le r 47 && not (list_any test T.bookings)) same
    ∙ ap (λ t. nat_le 1 d && nat_le (s + d) U.horizon && nat_le r 47 && not t) taken
