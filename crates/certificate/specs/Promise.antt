-- The whole promise of drawing: over every list of calls from a new sheet.
use Rattle.std.specs.Prelude.{◌≡◌, List, Ok}
use Rattle.model.specs.Data.{JobData, NetData}
use Rattle.model.specs.Plans.{placed_count, plan_length}
use Rattle.routes.specs.Legs.{Ways}
use Rattle.timetable.specs.Tables.{Table}
use Rattle.planner.specs.Drawing.{new_state}
use Rattle.planner.specs.Outcomes.{DrawState}
use Rattle.planner.specs.States.{Given}
use Rattle.planner.specs.Trials.{Sheet, BeingDrawn}
use Rattle.certificate.specs.Calls.{after}
use Rattle.certificate.specs.Certificate.{EmptyTable, Certified}
use Rattle.certificate.specs.Sheets.{plan_on}
use Rattle.certificate.specs.Slips.{slip}
use Rattle.certificate.specs.declared.call.Call.{Call}
use Rattle.certificate.specs.declared.slip.Slip.TheVariants.{Lawful}

-- these calls, from a new sheet over an empty timetable, lead to this sheet
pub record FromNewSheet (J : JobData) (N : NetData) (ρ : Ways) (calls : List Call) (X : Sheet) : Type 0 where
  pub table : Table
  pub empty : EmptyTable table
  pub drawn : after J N ρ (BeingDrawn (new_state table)) calls ≡ X

-- and its plan is certified
pub record CertifiedSheet (J : JobData) (N : NetData) (ρ : Ways) (calls : List Call) (X : Sheet) : Type 0 where
  pub drawn : FromNewSheet J N ρ calls X
  pub certified : Certified J N ρ (plan_on X)

-- after any list of calls, whatever was refused, and also on trial
abbrev pub EveryListOfCalls : Type 0
EveryListOfCalls = (J : JobData) (N : NetData) (ρ : Ways) → Given J N ρ → (calls : List Call) (X : Sheet) → FromNewSheet J N ρ calls X → Certified J N ρ (plan_on X)

-- a sheet that any list of calls led to is given a lawful slip when it is handed in
abbrev pub EverySheetHandedIn : Type 0
EverySheetHandedIn =
    (J : JobData) (N : NetData) (ρ : Ways) → Given J N ρ → (calls : List Call) (S : DrawState) → FromNewSheet J N ρ calls (BeingDrawn S) → slip J N ρ S.count S.plan ≡ Ok (Lawful (placed_count S.plan) (plan_length J N S.plan))
