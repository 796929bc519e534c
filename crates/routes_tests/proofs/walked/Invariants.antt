use Rattle.std.proofs.Common.{◌≡◌}
use Rattle.routes.specs.Hops.{hops_of, reached}
use Rattle.routes_tests.proofs.walked.Given as goal

abbrev pub invariant-loop-i : goal.invariant-loop-i
invariant-loop-i g l = l.here ≡ reached l.from (hops_of (g.R.Routes.route l.routes l.from l.to)) l.i
