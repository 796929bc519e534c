use Rattle.std.proofs.Common.{◌≡◌, None}
use Rattle.model.specs.Data.{net_of}
use Rattle.model.specs.Lowest.{lowest}
use Rattle.routes.specs.Tables.{rows_of, origin_refusal}
use Rattle.routes.proofs.written.make.check_rows.Given as goal

abbrev pub invariant-loop-from : goal.invariant-loop-from
invariant-loop-from l = lowest (origin_refusal (net_of l.network) (rows_of l.rows)) l.from ≡ None
