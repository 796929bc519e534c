use Rattle.std.proofs.Common.{◌+◌, ◌*◌, arith}
use Rattle.routes.specs.Tables.{rows_of}
use Rattle.session.specs.Pairs.{pairs_of}
use Rattle.session.proofs.Taken.{chosen, same_past, row_pushed, one_goal_more}
use Rattle.session.proofs.table.push_rows.Goals as goal

pub loop-to-preserved : goal.loop-to-preserved
loop-to-preserved c =
    let xs = pairs_of c.args.written.now in
    let ys = pairs_of c.loop-to.written in
    record {
      added = one_goal_more (rows_of c.args.rows.now.items) (rows_of c.loop-to.rows.items) (rows_of c.push.new.self.items) xs ys _ c.args.from c.loop-to.to c.loop-to.invariant.added c.loop-to.invariant.rest (chosen c.args.from c.loop-to.to _ _ _ c.requires.0 (omega arith) c.row_between.ensures.row)
          (row_pushed c.loop-to.rows.items c.push.new.self.items c.row_between.result c.in_ok-push.ensures.items);
      rest = same_past xs ys (pairs_of c.row_between.new.written) (16 * c.args.from + c.loop-to.to) (16 * c.args.from + (c.loop-to.to + 1)) c.loop-to.invariant.rest (chosen c.args.from c.loop-to.to _ _ _ c.requires.0 (omega arith) c.row_between.ensures.rest) (omega arith);
    }
