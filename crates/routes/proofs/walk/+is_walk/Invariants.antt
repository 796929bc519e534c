use Rattle.std.proofs.Common.{length}
use Rattle.routes.proofs.walk.+is_walk.Given as goal

abbrev pub decreases-is_walk : goal.decreases-is_walk
decreases-is_walk l = length l.hops.now
