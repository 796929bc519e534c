use Rattle.planner.proofs.Chaining.{ChainedFrom}
use Rattle.planner.proofs.order.chains.EdgeChains.of.Given as goal

abbrev pub invariant-loop-i : goal.invariant-loop-i
invariant-loop-i l = ChainedFrom l.edges l.first l.next l.i

abbrev pub decreases-loop-i : goal.decreases-loop-i
decreases-loop-i l = l.i
