use Rattle.std.proofs.Common.{◌≡◌, false, List, Some, None, vec_items, Option, sym, refl, ap, ◌∙◌}
use Rattle.std.specs.Prelude.{Result, Ok, Err, is_ok, IfErr}
use Rattle.std.specs.Result.{IsErrAnd}
use Rattle.std.proofs.lemmas.Bool.{true≢false}
use Rattle.model.specs.Data.{NetData, net_of}
use Rattle.model.specs.declared.refusal.Refusal.{Refusal}
use Rattle.model.proofs.Firsts.{some≢none}
use Rattle.routes.specs.Lawful.{FirstBroken}
use Rattle.routes.specs.Tables.{rows_of, written_refusal}
use Rattle.routes.specs.Shown.Kept.{table_lawful, lawful_table, table_broken}
use Rattle.routes.specs.declared.hop.Hop.{Hop}
use Rattle.routes.proofs.written.WrittenRoutes.new.Goals as goal

-- what `?` hands on is the refusal
handed_on : {W : Type 0} (N : NetData) (rows : List (Option (List Hop))) (r : Result W Refusal) (e : Refusal) → written_refusal N rows ≡ Some e → IsErrAnd r (λ d. d ≡ e) → (is_ok r ≡ false) × IfErr r (FirstBroken N rows)
handed_on N rows (Ok w) e is same = absurd same
handed_on N rows (Err d) e is same = (refl, table_broken N rows d (is ∙ ap Some (sym same)))

pub returns-in_err-check_rows-clause-lawful : goal.returns-in_err-check_rows-clause-lawful
returns-in_err-check_rows-clause-lawful c =
    let N = net_of c.args.network in
    let rows = rows_of (vec_items c.args.rows) in
    let e = c.in_err-check_rows.field-0.0 in
    let is : written_refusal N rows ≡ Some e = sym (ap (λ xs. written_refusal N (rows_of xs)) c.deref.ensures.value) ∙ sym c.in_err-check_rows.ensures in
    let failed = (handed_on N rows c.from_residual.result e is c.from_residual.ensures.1).0 in
    (λ ok. absurd (true≢false (sym ok ∙ failed)), λ l. absurd (some≢none (sym is ∙ lawful_table N rows l)))

pub returns-in_err-check_rows-clause-broken : goal.returns-in_err-check_rows-clause-broken
returns-in_err-check_rows-clause-broken c =
    let N = net_of c.args.network in
    let rows = rows_of (vec_items c.args.rows) in
    let e = c.in_err-check_rows.field-0.0 in
    let is : written_refusal N rows ≡ Some e = sym (ap (λ xs. written_refusal N (rows_of xs)) c.deref.ensures.value) ∙ sym c.in_err-check_rows.ensures in
    (handed_on N rows c.from_residual.result e is c.from_residual.ensures.1).1

pub returns-clause-lawful : goal.returns-clause-lawful
returns-clause-lawful c =
    let N = net_of c.args.network in
    let rows = rows_of (vec_items c.args.rows) in
    let is : written_refusal N rows ≡ None = sym (ap (λ xs. written_refusal N (rows_of xs)) c.deref.ensures.value) ∙ sym c.in_ok-check_rows.ensures in
    (λ _. table_lawful N rows is, λ _. refl)
