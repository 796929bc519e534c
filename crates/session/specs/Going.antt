-- What following one line after the setting gives.
use Rattle.std.specs.Prelude.{Ok, Err, Result}
use Rattle.model.specs.Plans.{plan_of}
use Rattle.model.specs.declared.plan.Plan.{Plan}
use Rattle.timetable.specs.Tables.{Table}
use Rattle.certificate.specs.Sheets.{sheet_of}
use Rattle.session.specs.Drawings.{Progress}
use Rattle.session.specs.Requests as Asked
use Rattle.session.specs.declared.script_sheet.ScriptSheet.{ScriptSheet}
use Rattle.session.specs.declared.script_sheet.ScriptSheet.TheVariants.{Open, HandedIn}
use Rattle.session.specs.declared.stop.Stop.{Stop}
use Rattle.session.specs.declared.work.Work.{Work}

-- what a sheet, with its plan and its timetable, is to the definitions
abbrev pub sheet_in : ScriptSheet → Plan → Table → Asked.ScriptSheet
sheet_in (Open sheet) plan T = Asked.open_sheet (sheet_of sheet plan T)
sheet_in HandedIn plan T = Asked.handed_in (plan_of plan)

-- the progress that a sheet and what it works on make; `meaning` says what a timetable says
abbrev pub progress_of : {X : Type 0} → (X → Table) → ScriptSheet → Work X → Progress
progress_of meaning sheet work = record { answer = plan_of work.answer; sheet = sheet_in sheet work.drawn (meaning work.table) }

-- whether it went well, and why not
abbrev pub without_sheet : Result ScriptSheet Stop → Result (Unit {0}) Stop
without_sheet (Ok sheet) = Ok tt
without_sheet (Err stop) = Err stop
