-- What a booking and a taking back answer, and which table they leave.
use Rattle.std.specs.Prelude.{◌-◌, Bool, [], ◌∷◌, ◌++◌, length, take, is_ok, Ok, Err, Option, Result, ◌==◌, if◌then◌else◌}
use Rattle.std.specs.List.{slice_get}
use Rattle.std.specs.Option.{ok_or}
use Rattle.model.specs.declared.booking.Booking.{Booking}
use Rattle.model.specs.declared.refusal.Refusal.{Refusal}
use Rattle.model.specs.declared.refusal.Refusal.TheVariants.{NothingToTakeBack, NoRoom, NoStart}
use Rattle.timetable.specs.Tables.{Table, free}

abbrev pub is_full : Table → Bool
is_full T = length T.bookings == T.most

abbrev pub is_free_for : Table → Booking → Bool
is_free_for T b = free T b.resource b.start b.length

-- the table with b as its newest booking
abbrev pub with_booking : Table → Booking → Table
with_booking T b = record T { bookings = T.bookings ++ b ∷ [] }

-- a full table refuses first, then one whose resource is not free
abbrev pub booked_answer : Table → Booking → Result (Unit {0}) Refusal
booked_answer T b = if is_full T then Err (NoRoom 1) else (if is_free_for T b then Ok tt else Err (NoStart b.resource))

abbrev pub booked : Table → Booking → Table
booked T b = if is_ok (booked_answer T b) then with_booking T b else T

abbrev pub newest : Table → Option Booking
newest T = slice_get T.bookings (length T.bookings - 1)

abbrev pub without_newest : Table → Table
without_newest T = record T { bookings = take (length T.bookings - 1) T.bookings }

abbrev pub taken_back_answer : Table → Result Booking Refusal
taken_back_answer T = ok_or (newest T) NothingToTakeBack

abbrev pub taken_back : Table → Table
taken_back T = if is_ok (taken_back_answer T) then without_newest T else T
