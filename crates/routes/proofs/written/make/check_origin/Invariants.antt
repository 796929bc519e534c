use Rattle.std.proofs.Common.{◌≡◌, None}
use Rattle.model.specs.Data.{net_of}
use Rattle.model.specs.Lowest.{lowest}
use Rattle.routes.specs.Tables.{rows_of, row_refusal}
use Rattle.routes.proofs.written.make.check_origin.Given as goal

abbrev pub invariant-loop-to : goal.invariant-loop-to
invariant-loop-to l = lowest (row_refusal (net_of l.network) (rows_of l.rows) l.from) l.to ≡ None
