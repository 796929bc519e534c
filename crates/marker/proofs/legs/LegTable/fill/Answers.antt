use Rattle.std.proofs.Common.{arith}
use Rattle.marker.proofs.legs.LegTable.fill.Goals as goal

pub returns-clause-ends : goal.returns-clause-ends
returns-clause-ends g c = let inv = c.loop-i.invariant in (inv.1, λ i k h. inv.3 i k (omega arith))
