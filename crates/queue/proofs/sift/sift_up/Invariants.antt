-- The element that rises stands at i; it takes no more steps than the length of the heap has binary digits.
use Rattle.std.proofs.Common.{◌≡◌, ◌+◌, ◌<◌, length}
use Rattle.std.specs.List.Sorted.{IsPermutation}
use Rattle.queue.proofs.Digits.{digits}
use Rattle.queue.proofs.Sifts.{IsRising}
use Rattle.queue.proofs.sift.sift_up.Given as goal

abbrev pub invariant-loop-i : goal.invariant-loop-i
invariant-loop-i g l = record {
  within : l.i < length l.initial.heap;
  len : length l.heap ≡ length l.initial.heap;
  rising : IsRising g.T.Rank.before l.heap l.i (length l.initial.heap);
  moved : IsPermutation l.initial.heap l.heap;
}

abbrev pub decreases-loop-i : goal.decreases-loop-i
decreases-loop-i g l = digits (l.i + 1)
