-- What a call of the program answers and leaves, read as an outcome.
use Rattle.std.specs.Prelude.{ℕ, Ok, Err, Result}
use Rattle.model.specs.declared.refusal.Refusal.{Refusal}
use Rattle.planner.specs.Outcomes.{Outcome}
use Rattle.planner.specs.declared.sheet.Drawing.{Drawing}

abbrev pub left_with : {A S : Type 0} → Result A Refusal → S → Outcome A S
left_with r S = record { answer = r; left = S }

-- a new sheet is answered by what it counts
abbrev pub sheet_count : Result Drawing Refusal → Result ℕ Refusal
sheet_count (Ok sheet) = Ok sheet.count
sheet_count (Err e) = Err e
