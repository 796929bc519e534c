-- What is certified of every plan that a script draws.
use Rattle.std.specs.Prelude.{◌≡◌, List, [], ◌∷◌, Some}
use Rattle.model.specs.Data.{JobData, NetData}
use Rattle.routes.specs.Legs.{Ways}
use Rattle.timetable.specs.Tables.{Table}
use Rattle.planner.specs.States.{Given}
use Rattle.certificate.specs.Certificate.{EmptyTable, Certified}
use Rattle.script.specs.Data.{LineData}
use Rattle.session.specs.Drawings.{Progress, beginning, progress_after}
use Rattle.session.specs.Requests.{drawn_plan}
use Rattle.session.specs.Statements.{Statement}

-- these statements, each of them understood, lead from one progress to another
abbrev pub Leads : JobData → NetData → Ways → Progress → List Statement → Progress → Type 0
Leads J N ρ G [] H = G ≡ H
Leads J N ρ G (s ∷ ss) H = (line : LineData) × (s.said ≡ Some line) × Leads J N ρ (progress_after J N ρ G line) ss H

-- wherever the statements after the setting lead, the plan on the sheet, which `show` shows and `hand in` hands in, is certified
abbrev pub EveryPlanOfAScript : Type 0
EveryPlanOfAScript =
    (J : JobData) (N : NetData) (ρ : Ways) → Given J N ρ → (T : Table) → EmptyTable T → (ss : List Statement) (H : Progress) → Leads J N ρ (beginning T) ss H → Certified J N ρ (drawn_plan H.sheet)
