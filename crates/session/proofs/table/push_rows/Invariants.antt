use Rattle.std.proofs.Common.{◌≡◌, ◌+◌, ◌*◌, ◌++◌, map}
use Rattle.std.specs.List.{range_with_len}
use Rattle.routes.specs.Tables.{rows_of}
use Rattle.session.specs.Pairs.{pairs_of}
use Rattle.session.specs.RouteRows.{SameFrom, row_between}
use Rattle.session.proofs.table.push_rows.Given as goal

abbrev pub invariant-loop-to : goal.invariant-loop-to
invariant-loop-to l = record {
  added : rows_of l.rows.items ≡ rows_of l.initial.rows.items ++ map (row_between (pairs_of l.initial.written) l.from) (range_with_len 0 l.to);
  rest : SameFrom (16 * l.from + l.to) (pairs_of l.initial.written) (pairs_of l.written);
}
