use Rattle.std.proofs.Common.{◌+◌, ◌*◌, arith}
use Rattle.routes.specs.Tables.{rows_of}
use Rattle.session.specs.Pairs.{pairs_of}
use Rattle.session.proofs.Taken.{same_later, one_origin_more}
use Rattle.session.proofs.table.table_of.Goals as goal

pub loop-from-preserved : goal.loop-from-preserved
loop-from-preserved c =
    let xs = pairs_of c.args.written in
    let ys = pairs_of c.loop-from.written in
    record {
      added = one_origin_more (rows_of c.loop-from.rows.items) (rows_of c.push_rows.new.rows.items) xs ys c.loop-from.from _ c.loop-from.invariant.added c.loop-from.invariant.rest c.in_ok-push_rows.ensures.rows;
      rest = same_later xs ys (pairs_of c.push_rows.new.written) (16 * c.loop-from.from) _ (16 * (c.loop-from.from + 1)) c.loop-from.invariant.rest c.push_rows.ensures.rest (omega arith) (omega arith);
    }
