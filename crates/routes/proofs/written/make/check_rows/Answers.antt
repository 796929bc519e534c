use Rattle.std.proofs.Common.{◌<◌, Some, sym, ap, ◌∙◌, arith}
use Rattle.std.proofs.lemmas.Result.{err_from_is_err_and}
use Rattle.model.specs.Data.{net_of, station_count}
use Rattle.model.specs.Refusals.{refusal_of}
use Rattle.model.proofs.Lowests.{lowest_start, lowest_more, lowest_found}
use Rattle.routes.specs.Tables.{rows_of, origin_refusal}
use Rattle.routes.proofs.written.make.check_rows.Goals as goal

pub loop-from-init : goal.loop-from-init
loop-from-init c = lowest_start _

pub loop-from-preserved : goal.loop-from-preserved
loop-from-preserved c =
    let f = origin_refusal (net_of c.args.network.now) (rows_of c.args.rows.now) in
    lowest_more f c.loop-from.from c.loop-from.invariant (sym c.in_ok-check_origin.ensures)

pub returns-in_err-check_origin : goal.returns-in_err-check_origin
returns-in_err-check_origin c =
    let N = net_of c.args.network.now in
    let f = origin_refusal N (rows_of c.args.rows.now) in
    let known : c.loop-from.from < station_count N = omega arith in
    let p = err_from_is_err_and c.from_residual.result c.from_residual.ensures.1 in
    ap refusal_of p.1 ∙ ap Some p.2
    ∙ sym (lowest_found f c.loop-from.from (station_count N) _ c.loop-from.invariant (sym c.in_err-check_origin.ensures) known)
