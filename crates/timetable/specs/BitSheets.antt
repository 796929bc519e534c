-- What a bit sheet says, that it keeps to the limits of every timetable, and what is said where none is made.
use Rattle.std.specs.Prelude.{ℕ, ◌*◌, ◌≤◌, List, length, codes, vec_items, vec_capacity}
use Rattle.std.proofs.Common.{subst, arith}
use Rattle.timetable.specs.Tables.{Table}
use Rattle.timetable.specs.declared.bit_sheet.BitSheet.{BitSheet}
use Rattle.timetable.specs.declared.bit_sheet.error.BitSheetError.{BitSheetError}
use Rattle.timetable.specs.declared.bit_sheet.error.BitSheetError.TheVariants.{TooManyWords, TooMany, Memory}

abbrev pub sheet_table : BitSheet → Table
sheet_table s = record { horizon = 64 * s.words_per_resource; most = vec_capacity s.bookings; bookings = vec_items s.bookings }

pub sheet_horizon : (s : BitSheet) → (sheet_table s).horizon ≤ 2000000000
sheet_horizon s = omega (arith, s.narrow)

pub sheet_count : (s : BitSheet) → length (sheet_table s).bookings ≤ (sheet_table s).most
sheet_count s = subst (λ n. n ≤ vec_capacity s.bookings) s.bookings.ok.0 s.bookings.ok.1

abbrev pub sheet_error_text : BitSheetError → List ℕ
sheet_error_text TooManyWords = codes "more words than a resource of a bit sheet can have"
sheet_error_text TooMany = codes "more bookings than a bit sheet can hold"
sheet_error_text Memory = codes "no memory for the bookings or the words"
