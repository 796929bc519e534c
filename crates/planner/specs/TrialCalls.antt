-- What a try answers and leaves, read as an outcome.
use Rattle.std.specs.Prelude.{ℕ, Ok, Err, Result}
use Rattle.model.specs.declared.plan.Plan.{Plan}
use Rattle.model.specs.declared.refusal.Refusal.{Refusal}
use Rattle.timetable.specs.Tables.{Table}
use Rattle.planner.specs.Outcomes.{Outcome}
use Rattle.planner.specs.States.{state}
use Rattle.planner.specs.Trials.{Sheet, BeingDrawn, BeingTried}
use Rattle.planner.specs.declared.sheet.Drawing.{Drawing}
use Rattle.planner.specs.declared.sheet.OnTrial.{OnTrial}

-- a try that is answered leaves the sheet on trial; a refused one gives the sheet that is drawn on back
abbrev pub left_by_try : Result (OnTrial × ℕ) (Drawing × Refusal) → Plan → Table → Outcome ℕ Sheet
left_by_try (Ok (sheet, n)) plan T = record { answer = Ok n; left = BeingTried (state sheet.count plan T) }
left_by_try (Err (sheet, e)) plan T = record { answer = Err e; left = BeingDrawn (state sheet.count plan T) }
