-- What a sheet, with its plan and its timetable, is to the definitions.
use Rattle.std.specs.Prelude.{ℕ}
use Rattle.model.specs.Plans.{PlanData}
use Rattle.model.specs.declared.plan.Plan.{Plan}
use Rattle.timetable.specs.Tables.{Table}
use Rattle.planner.specs.Outcomes.{DrawState}
use Rattle.planner.specs.States.{state}
use Rattle.planner.specs.Trials.{BeingDrawn, BeingTried}
use Rattle.planner.specs.Trials as Drawn
use Rattle.certificate.specs.declared.sheet.Sheet.{Sheet}
use Rattle.certificate.specs.declared.sheet.Sheet.TheVariants.{Drawing, OnTrial}

abbrev pub sheet_of : Sheet → Plan → Table → Drawn.Sheet
sheet_of (Drawing d) plan T = BeingDrawn (state d.count plan T)
sheet_of (OnTrial d) plan T = BeingTried (state d.count plan T)

-- how many steps the sheet counts
abbrev pub counted : Sheet → ℕ
counted (Drawing d) = d.count
counted (OnTrial d) = d.count

-- the state of a sheet, on trial or not
abbrev pub state_on : Drawn.Sheet → DrawState
state_on (BeingDrawn S) = S
state_on (BeingTried S) = S

abbrev pub plan_on : Drawn.Sheet → PlanData
plan_on X = (state_on X).plan
