-- The first bookings of a table.
use Rattle.std.proofs.Common.{◌≡◌, ℕ, ◌-◌, ◌<◌, ◌≤◌, min, List, [], ◌∷◌, length, is_ok, ok_or, Some, get_or, if◌then◌else◌, sym, ap, ◌∙◌, length-take, arith}
use Rattle.std.proofs.lemmas.Option.{slice_get-get_or}
use Rattle.std.proofs.lemmas.List.{take_all, take-take, take-append-le}
use Rattle.model.specs.declared.booking.Booking.{Booking}
use Rattle.model.specs.declared.refusal.Refusal.TheVariants.{NothingToTakeBack}
use Rattle.timetable.specs.Changes.{with_booking, newest, without_newest, taken_back}
use Rattle.timetable.specs.Tables.{Table}
use Rattle.planner.specs.Booked.{first_bookings, Extends}

abbrev holding : Table → List Booking → Table
holding T bs = record T { bookings = bs }

pub first_all : (T : Table) (n : ℕ) → length T.bookings ≤ n → first_bookings n T ≡ T
first_all T n h = ap (holding T) (take_all n T.bookings h)

pub first_first : (T : Table) (m n : ℕ) → m ≤ n → first_bookings m (first_bookings n T) ≡ first_bookings m T
first_first T m n h = ap (holding T) (take-take m n T.bookings h)

pub extends_itself : (T : Table) → Extends T T
extends_itself T = first_all T (length T.bookings) (omega arith)

pub first_length : (T : Table) (n : ℕ) → length (first_bookings n T).bookings ≡ min n (length T.bookings)
first_length T n = length-take n T.bookings

pub extends_length : (T U : Table) → Extends T U → length U.bookings ≤ length T.bookings
extends_length T U e =
    let same : length (first_bookings (length U.bookings) T).bookings ≡ length U.bookings = ap (λ X. length X.bookings) e in
    omega (arith, first_length T (length U.bookings))

pub extends_most : (T U : Table) → Extends T U → T.most ≡ U.most
extends_most T U e = ap (λ X. X.most) e

pub extends_booking : (T U : Table) (b : Booking) → Extends T U → Extends (with_booking T b) U
extends_booking T U b e = ap (holding T) (take-append-le (length U.bookings) T.bookings (b ∷ []) (extends_length T U e)) ∙ e

pub extends_both : (T U V : Table) → Extends T U → Extends U V → Extends T V
extends_both T U V e f =
    sym (first_first T (length V.bookings) (length U.bookings) (extends_length U V f)) ∙ ap (first_bookings (length V.bookings)) e ∙ f

no_booking : Booking
no_booking = record { resource = 0; start = 0; length = 0 }

-- taking back leaves all but the newest
pub one_back : (T : Table) (n : ℕ) → n < length T.bookings → taken_back T ≡ first_bookings (length T.bookings - 1) T
one_back T n some =
    let there : newest T ≡ Some (get_or T.bookings (length T.bookings - 1) no_booking) = slice_get-get_or T.bookings (length T.bookings - 1) no_booking (omega arith) in
    ap (λ o. if is_ok (ok_or o NothingToTakeBack) then without_newest T else T) there
