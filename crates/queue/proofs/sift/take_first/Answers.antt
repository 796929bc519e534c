-- The top of a heap is its first element; after the exchange the others stand before it.
use Rattle.std.proofs.Common.{rules}
use Rattle.queue.proofs.Fronts.{is_permutation_popped}
use Rattle.queue.proofs.Sifts.{is_first_top}
use Rattle.queue.proofs.sift.take_first.Goals as goal

pub returns-clause-first : goal.returns-clause-first
returns-clause-first g c =
    let r = c.requires in is_first_top _ g.met.T.Rank.order _ _ r.some (search rules) r.heap

pub returns-clause-items : goal.returns-clause-items
returns-clause-items g c =
    let r = c.requires in
    let s = c.swap.ensures in is_permutation_popped _ _ _ _ _ r.some s.len (search rules) s.by_index s.permutation c.sift_down.ensures.items
