use Rattle.std.proofs.Common.{arith}
use Rattle.session.proofs.Pairs.{row_is}
use Rattle.session.proofs.table.row_between.Goals as goal

pub returns-clause-row : goal.returns-clause-row
returns-clause-row c =
    row_is c.args.written.now c.args.from c.args.to c.new.result c.remove.result _ c.or.result (omega arith) (omega arith) c.new.ensures.items c.remove.ensures.value
    c.then_some-empty_route.ensures c.or.ensures
