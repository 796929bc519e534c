use Rattle.std.proofs.Common.{◌<◌, Some, sym, ap, ◌∙◌, arith}
use Rattle.std.proofs.lemmas.Result.{err_from_is_err_and}
use Rattle.model.specs.Data.{net_of, station_count}
use Rattle.model.specs.Refusals.{refusal_of}
use Rattle.model.proofs.Lowests.{lowest_start, lowest_more, lowest_found}
use Rattle.routes.specs.Tables.{rows_of, row_refusal}
use Rattle.routes.proofs.written.make.check_origin.Goals as goal

pub loop-to-init : goal.loop-to-init
loop-to-init c = lowest_start _

pub loop-to-preserved : goal.loop-to-preserved
loop-to-preserved c =
    let f = row_refusal (net_of c.args.network.now) (rows_of c.args.rows.now) c.args.from in
    lowest_more f c.loop-to.to c.loop-to.invariant (sym c.in_ok-check_row.ensures)

pub returns-in_err-check_row : goal.returns-in_err-check_row
returns-in_err-check_row c =
    let N = net_of c.args.network.now in
    let f = row_refusal N (rows_of c.args.rows.now) c.args.from in
    let known : c.loop-to.to < station_count N = omega arith in
    let p = err_from_is_err_and c.from_residual.result c.from_residual.ensures.1 in
    ap refusal_of p.1 ∙ ap Some p.2
    ∙ sym (lowest_found f c.loop-to.to (station_count N) _ c.loop-to.invariant (sym c.in_err-check_row.ensures) known)
