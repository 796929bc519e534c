use Rattle.std.proofs.Common.{true, false, codes}
use Rattle.script.specs.Form.{form_named}
use Rattle.script.proofs.Stated.{tested, passed_on, not_named, told_by_form}
use Rattle.script.proofs.statement.statement_of.Goals as goal

pub returns-then-eq : goal.returns-then-eq
returns-then-eq c =
    let yes' = tested c.args.word.now (codes "routes") c.as_slice.result.now true (cc) c.as_slice.ensures in
    rw yes' c.routes.ensures

pub returns-then-eq-2 : goal.returns-then-eq-2
returns-then-eq-2 c =
    let no' = tested c.args.word.now (codes "routes") c.as_slice.result.now false (cc) c.as_slice.ensures in
    let yes' = tested c.args.word.now (codes "hand") c.as_slice-2.result.now true (cc) c.as_slice-2.ensures in
    rw (no', yes') c.hand.ensures

pub returns-then-eq-3 : goal.returns-then-eq-3
returns-then-eq-3 c =
    let no' = tested c.args.word.now (codes "routes") c.as_slice.result.now false (cc) c.as_slice.ensures in
    let nor' = tested c.args.word.now (codes "hand") c.as_slice-2.result.now false (cc) c.as_slice-2.ensures in
    let yes' = tested c.args.word.now (codes "timetable") c.as_slice-3.result.now true (cc) c.as_slice-3.ensures in
    rw (no', nor', yes') c.timetable.ensures

pub returns-in_err-form : goal.returns-in_err-form
returns-in_err-form c =
    let no' = tested c.args.word.now (codes "routes") c.as_slice.result.now false (cc) c.as_slice.ensures in
    let nor' = tested c.args.word.now (codes "hand") c.as_slice-2.result.now false (cc) c.as_slice-2.ensures in
    let last' = tested c.args.word.now (codes "timetable") c.as_slice-3.result.now false (cc) c.as_slice-3.ensures in
    rw (no', nor', last') (passed_on c.from_residual.result c.in_err-form.field-0.0 _ c.from_residual.ensures.1 (not_named c.in_err-form.field-0.0 (form_named c.args.word.now) _ c.in_err-form.ensures))

pub returns : goal.returns
returns c =
    let no' = tested c.args.word.now (codes "routes") c.as_slice.result.now false (cc) c.as_slice.ensures in
    let nor' = tested c.args.word.now (codes "hand") c.as_slice-2.result.now false (cc) c.as_slice-2.ensures in
    let last' = tested c.args.word.now (codes "timetable") c.as_slice-3.result.now false (cc) c.as_slice-3.ensures in
    rw (no', nor', last') (told_by_form c.numbered.result c.in_ok-form.form (form_named c.args.word.now) _ c.in_ok-form.ensures c.numbered.ensures)
