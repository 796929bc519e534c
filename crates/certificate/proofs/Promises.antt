-- Every list of calls from a new sheet leaves a certified plan, and so does every list that goes on from there.
use Rattle.std.proofs.Common.{◌≡◌, List, [], ◌∷◌, ◌++◌, refl, ap, subst, sym, ◌∙◌}
use Rattle.model.specs.Data.{JobData, NetData}
use Rattle.routes.specs.Legs.{Ways}
use Rattle.planner.specs.Drawing.{new_state}
use Rattle.planner.specs.States.{Given}
use Rattle.planner.specs.Trials.{Sheet, BeingDrawn}
use Rattle.certificate.specs.Calls.{carry_out, after}
use Rattle.certificate.specs.Certificate.{Certified, new_sheet}
use Rattle.certificate.specs.Promise.{FromNewSheet, CertifiedSheet, EveryListOfCalls}
use Rattle.certificate.specs.Sheets.{plan_on}
use Rattle.certificate.specs.declared.call.Call.{Call}
use Rattle.certificate.proofs.Calls.{after_drawn}
use Rattle.certificate.proofs.Drawns.{every_drawn_plan}

pub every_list_of_calls : EveryListOfCalls
every_list_of_calls J N ρ given calls X from =
    subst (λ Y. Certified J N ρ (plan_on Y)) from.drawn
    (every_drawn_plan J N ρ given _ (after_drawn J N ρ given _ calls (new_sheet from.table from.empty)))

-- some calls, and then others
after_both : (J : JobData) (N : NetData) (ρ : Ways) (X : Sheet) (before calls : List Call) → after J N ρ X (before ++ calls) ≡ after J N ρ (after J N ρ X before) calls
unfolding after
after_both J N ρ X [] calls = refl
after_both J N ρ X (call ∷ before) calls = after_both J N ρ (carry_out J N ρ X call).sheet before calls

pub goes_on : (J : JobData) (N : NetData) (ρ : Ways) → Given J N ρ → (before calls : List Call) (X Y : Sheet) → FromNewSheet J N ρ before X → Y ≡ after J N ρ X calls → CertifiedSheet J N ρ (before ++ calls) Y
goes_on J N ρ given before calls X Y from is =
    let all : FromNewSheet J N ρ (before ++ calls) Y = record {
      table = from.table;
      empty = from.empty;
      drawn = after_both J N ρ (BeingDrawn (new_state from.table)) before calls ∙ ap (λ Z. after J N ρ Z calls) from.drawn ∙ sym is;
    } in
    record { drawn = all; certified = every_list_of_calls J N ρ given (before ++ calls) Y all }
