-- The queue holds the items so far.
use Rattle.std.proofs.Common.{◌≡◌, length, take}
use Rattle.std.specs.List.Sorted.{IsPermutation}
use Rattle.queue.specs.Items.{items, room}
use Rattle.queue_tests.proofs.first.first_of.Given as goal

abbrev pub invariant-loop-item : goal.invariant-loop-item
invariant-loop-item g l = record {
  same_room : room l.queue ≡ length l.fn.slots;
  count : length (items l.queue) ≡ l.item-index;
  held : IsPermutation (take l.item-index l.items) (items l.queue);
}
