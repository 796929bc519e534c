-- After a step the element that rises stands at the place of the parent, with all else in order.
use Rattle.std.proofs.Common.{arith}
use Rattle.std.proofs.lemmas.List.{get_or_read}
use Rattle.std.proofs.lemmas.List.Sorted.{IsPermutation-trans}
use Rattle.queue.proofs.Digits.{digits_half}
use Rattle.queue.proofs.Sifts.{rise_steps}
use Rattle.queue.proofs.sift.sift_up.Goals as goal

pub loop-i-preserved : goal.loop-i-preserved
loop-i-preserved g c =
    let l = c.loop-i in
    let swapped = c.swap.ensures.by_index in record {
      within = omega arith;
      len = grind arith;
      rising = rise_steps _ g.met.T.Rank.order _ _ l.i _ _ (omega arith) (omega arith) (omega arith) swapped (λ d. grind (arith, get_or_read, c.if-not-precedes.ensures)) l.invariant.rising;
      moved = IsPermutation-trans _ _ _ l.invariant.moved c.swap.ensures.permutation;
    }

pub loop-i-smaller : goal.loop-i-smaller
loop-i-smaller g c = digits_half _ _ (omega arith) (omega arith)
