-- The top of a heap is its first element.
use Rattle.std.proofs.Common.{◌∙◌}
use Rattle.queue.proofs.Sifts.{is_first_if_some}
use Rattle.queue.proofs.heap.Queue.peek.Goals as goal

pub returns-clause-first : goal.returns-clause-first
returns-clause-first g c =
    let q = c.args.self.now in
    is_first_if_some _ g.met.T.Rank.order q.slots.now q.len _ q.fits (c.copied.ensures ∙ c.first.ensures.value) q.ordered
