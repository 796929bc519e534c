-- After a step the element that sinks stands at the place of the child, with all else in order.
use Rattle.std.proofs.Common.{ℕ, ◌+◌, length, arith}
use Rattle.std.proofs.lemmas.List.{get_or_read}
use Rattle.std.proofs.lemmas.List.Sorted.{IsPermutation-trans}
use Rattle.queue.proofs.Digits.{digits_half}
use Rattle.queue.proofs.Sifts.{sink_steps}
use Rattle.queue.proofs.sift.sift_down.Goals as goal

pub loop-i-preserved : goal.loop-i-preserved
loop-i-preserved g c =
    let l = c.loop-i in
    let child = rw l.invariant.len at c.first_child-child.ensures in
    let swapped = c.swap.ensures.by_index in record {
      len = grind arith;
      sinking = sink_steps _ g.met.T.Rank.order _ _ l.i _ _ child swapped (λ d. grind (arith, get_or_read, c.if-not-precedes.ensures)) l.invariant.sinking;
      moved = IsPermutation-trans _ _ _ l.invariant.moved c.swap.ensures.permutation;
    }

pub loop-i-smaller : goal.loop-i-smaller
loop-i-smaller g c =
    let i : ℕ = c.loop-i.i + 1 in
    omega (arith, digits_half i (c.first_child-child.result + 1) (omega arith) (omega arith), digits_half i (length c.args.heap.now) (omega arith) (omega arith))
