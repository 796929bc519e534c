-- A sheet that was drawn belongs to its plan, and its slip is lawful.
use Rattle.std.proofs.Common.{◌≡◌, true, Ok, Err, ap, subst, ◌∙◌}
use Rattle.std.proofs.lemmas.Bool.{and_parts, cond-true}
use Rattle.model.specs.Data.{JobData, NetData}
use Rattle.model.specs.declared.refusal.Refusal.TheVariants.{NotInOrder}
use Rattle.routes.specs.Legs.{Ways}
use Rattle.planner.specs.Bookings.{plan_bookings}
use Rattle.planner.specs.Order.{keeps_rows, keeps_predecessors, keeps_routes, are_same, belongs, in_order}
use Rattle.planner.specs.Outcomes.{DrawState}
use Rattle.planner.specs.States.{Ordered}
use Rattle.planner.specs.Trials.{BeingDrawn}
use Rattle.marker.specs.Verdicts.{verdict}
use Rattle.certificate.specs.Certificate.{new_sheet}
use Rattle.certificate.specs.Promise.{EverySheetHandedIn}
use Rattle.certificate.specs.Sheets.{state_on}
use Rattle.certificate.specs.Slips.{slip_of}
use Rattle.certificate.proofs.Calls.{drawn_ordered, after_drawn}
use Rattle.certificate.proofs.Promises.{every_list_of_calls}

-- a sheet that is in order belongs to its plan
ordered_belongs : (J : JobData) (N : NetData) (ρ : Ways) (S : DrawState) → in_order J N ρ S ≡ true → belongs J S.count S.plan ≡ true
unfolding in_order
ordered_belongs J N ρ S e =
    let booked = and_parts _ (are_same S.table.bookings (plan_bookings J N ρ S.plan)) e in
    let routed = and_parts _ (keeps_routes J ρ S.plan) booked.0 in
    let known = and_parts _ (keeps_predecessors J S.plan) routed.0 in
    (and_parts (belongs J S.count S.plan) (keeps_rows J N S.plan) known.0).0

pub every_sheet_handed_in : EverySheetHandedIn
every_sheet_handed_in J N ρ given calls S from =
    let drawn = after_drawn J N ρ given _ calls (new_sheet from.table from.empty) in
    let ordered : Ordered J N ρ S = subst (λ X. Ordered J N ρ (state_on X)) from.drawn (drawn_ordered J N ρ given drawn) in
    let lawful = (every_list_of_calls J N ρ given calls (BeingDrawn S) from).lawful in
    cond-true (belongs J S.count S.plan) (Ok (slip_of J N S.plan (verdict J N ρ S.plan))) (Err NotInOrder) (ordered_belongs J N ρ S ordered.tested)
    ∙ ap (λ v. Ok (slip_of J N S.plan v)) lawful
