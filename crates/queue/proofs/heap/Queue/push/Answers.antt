-- The elements are those of before and the one that was written after them.
use Rattle.std.proofs.Common.{arith}
use Rattle.queue.proofs.Fronts.{is_permutation_pushed}
use Rattle.queue.proofs.heap.Queue.push.Goals as goal

pub returns-clause-taken : goal.returns-clause-taken
returns-clause-taken g c = is_permutation_pushed _ _ _ _ _ (omega arith) c.sift_up.ensures.items
