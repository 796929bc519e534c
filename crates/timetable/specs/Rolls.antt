-- What a roll says, that it keeps to the limits of every timetable, and what is said where none is made.
use Rattle.std.specs.Prelude.{ℕ, ◌≤◌, List, length, codes, vec_items, vec_capacity}
use Rattle.std.proofs.Common.{subst}
use Rattle.std.proofs.Math.Nat.{le_refl}
use Rattle.timetable.specs.Tables.{Table}
use Rattle.timetable.specs.declared.roll.Roll.{Roll}
use Rattle.timetable.specs.declared.roll.error.RollError.{RollError}
use Rattle.timetable.specs.declared.roll.error.RollError.TheVariants.{TooMany, Memory}

abbrev pub roll_table : Roll → Table
roll_table r = record { horizon = 2000000000; most = vec_capacity r.bookings; bookings = vec_items r.bookings }

pub roll_horizon : (r : Roll) → (roll_table r).horizon ≤ 2000000000
roll_horizon r = le_refl 2000000000

pub roll_count : (r : Roll) → length (roll_table r).bookings ≤ (roll_table r).most
roll_count r = subst (λ n. n ≤ vec_capacity r.bookings) r.bookings.ok.0 r.bookings.ok.1

abbrev pub roll_error_text : RollError → List ℕ
roll_error_text TooMany = codes "more bookings than a roll can hold"
roll_error_text Memory = codes "no memory for the bookings"
