use Rattle.std.proofs.Common.{◌≡◌, ◌*◌, map}
use Rattle.std.specs.List.{flat_map, range_with_len}
use Rattle.routes.specs.Tables.{rows_of}
use Rattle.session.specs.Pairs.{pairs_of}
use Rattle.session.specs.RouteRows.{SameFrom, row_between}
use Rattle.session.proofs.table.table_of.Given as goal

abbrev pub invariant-loop-from : goal.invariant-loop-from
invariant-loop-from l = record {
  added : rows_of l.rows.items ≡ flat_map (λ s. map (row_between (pairs_of l.fn.written) s) (range_with_len 0 l.count)) (range_with_len 0 l.from);
  rest : SameFrom (16 * l.from) (pairs_of l.fn.written) (pairs_of l.written);
}
