-- What booking the earliest answers and leaves, and what trying it answers.
use Rattle.std.specs.Prelude.{ℕ, Some, None, Ok, Err, Option, Result, if◌then◌else◌}
use Rattle.model.specs.declared.booking.Booking.{Booking}
use Rattle.model.specs.declared.refusal.Refusal.{Refusal}
use Rattle.model.specs.declared.refusal.Refusal.TheVariants.{NoRoom, NoStart}
use Rattle.timetable.specs.Changes.{is_full, booked}
use Rattle.timetable.specs.Earliest.{earliest}
use Rattle.timetable.specs.Tables.{Table, span}

abbrev pub answer_at : Table → ℕ → Option ℕ → Result ℕ Refusal
answer_at T r None = Err (NoStart r)
answer_at T r (Some s) = if is_full T then Err (NoRoom 1) else Ok s

abbrev pub earliest_booked_answer : Table → ℕ → ℕ → ℕ → Result ℕ Refusal
earliest_booked_answer T r from d = answer_at T r (earliest T r from d)

abbrev pub booked_at : Table → ℕ → ℕ → Option ℕ → Table
booked_at T r d None = T
booked_at T r d (Some s) = booked T (span r s d)

abbrev pub earliest_booked : Table → ℕ → ℕ → ℕ → Table
earliest_booked T r from d = booked_at T r d (earliest T r from d)

-- the booking that would be made
abbrev pub booking_at : ℕ → ℕ → Result ℕ Refusal → Result Booking Refusal
booking_at r d (Ok s) = Ok (span r s d)
booking_at r d (Err e) = Err e

abbrev pub tried_answer : Table → ℕ → ℕ → ℕ → Result Booking Refusal
tried_answer T r from d = booking_at r d (earliest_booked_answer T r from d)
