-- The sheet of a script is always one that some list of calls led to.
use Rattle.std.proofs.Common.{◌≡◌, List, [], ◌∷◌, ◌++◌, Some, None, Option, refl, subst}
use Rattle.model.specs.Data.{JobData, NetData}
use Rattle.routes.specs.Legs.{Ways}
use Rattle.timetable.specs.Tables.{Table}
use Rattle.planner.specs.States.{Given}
use Rattle.planner.specs.Trials.{Sheet, BeingDrawn, BeingTried}
use Rattle.certificate.specs.Calls.{carry_out, after}
use Rattle.certificate.specs.Certificate.{EmptyTable, Certified}
use Rattle.certificate.specs.Promise.{FromNewSheet}
use Rattle.certificate.specs.Sheets.{plan_on}
use Rattle.certificate.specs.declared.call.Call.{Call}
use Rattle.certificate.proofs.Promises.{every_list_of_calls, goes_on}
use Rattle.script.specs.Data.{LineData}
use Rattle.session.specs.Certified.{Leads, EveryPlanOfAScript}
use Rattle.session.specs.Drawings.{Progress, beginning, left_by, progress_after}
use Rattle.session.specs.Requests.{ScriptSheet, open_sheet, handed_in, drawn_plan, request_of, replied}
use Rattle.session.specs.Statements.{Statement}
use Rattle.session.specs.declared.request.Request.{Request}
use Rattle.session.specs.declared.request.Request.TheVariants.{Draw, HandIn}

module _ (J : JobData) (N : NetData) (ρ : Ways) (given : Given J N ρ) where
  -- some calls led to the sheet, or to the one that was handed in
  abbrev FromCalls : ScriptSheet → Type 0
  FromCalls (open_sheet X) = (calls : List Call) × FromNewSheet J N ρ calls X
  FromCalls (handed_in P) = (X : Sheet) × (plan_on X ≡ P) × ((calls : List Call) × FromNewSheet J N ρ calls X)

  one_call : (X : Sheet) (call : Call) → (carry_out J N ρ X call).sheet ≡ after J N ρ X (call ∷ [])
  unfolding after
  one_call X call = refl

  replied_from : (Z : ScriptSheet) (request : Request) → FromCalls Z → FromCalls (replied J N ρ Z request).sheet
  replied_from (open_sheet X) (Draw call) from = (from.0 ++ call ∷ [], (goes_on J N ρ given from.0 (call ∷ []) X _ from.1 (one_call X call)).drawn)
  replied_from (open_sheet (BeingDrawn S)) HandIn from = (BeingDrawn S, refl, from)
  replied_from (open_sheet (BeingTried S)) HandIn from = from
  replied_from (handed_in P) request from = from

  after_line : (G : Progress) (line : LineData) (asked : Option Request) → FromCalls G.sheet → FromCalls (left_by J N ρ G line asked).sheet
  after_line G line None from = from
  after_line G line (Some request) from = replied_from G.sheet request from

  led_from : (ss : List Statement) (G H : Progress) → FromCalls G.sheet → Leads J N ρ G ss H → FromCalls H.sheet
  led_from [] G H from leads = subst (λ P. FromCalls P.sheet) leads from
  led_from (s ∷ ss) G H from leads = led_from ss (progress_after J N ρ G leads.0) H (after_line G leads.0 (request_of leads.0) from) leads.2

  certified : (Z : ScriptSheet) → FromCalls Z → Certified J N ρ (drawn_plan Z)
  certified (open_sheet X) from = every_list_of_calls J N ρ given from.0 X from.1
  certified (handed_in P) from = subst (Certified J N ρ) from.1 (every_list_of_calls J N ρ given from.2.0 from.0 from.2.1)

  begun : (T : Table) → EmptyTable T → FromCalls (beginning T).sheet
  unfolding after
  begun T empty = ([], record { table = T; empty = empty; drawn = refl })

pub every_plan_of_a_script : EveryPlanOfAScript
every_plan_of_a_script J N ρ given T empty ss H leads =
    certified J N ρ given H.sheet (led_from J N ρ given ss (beginning T) H (begun J N ρ given T empty) leads)
