use Rattle.std.proofs.Common.{◌≡◌, ◌+◌, ◌≤◌, length, vec_capacity}
use Rattle.script.proofs.list.list_of.Given as goal

abbrev pub invariant-loop-item : goal.invariant-loop-item
invariant-loop-item g l = record {
  can : (goal.iterator-loop-item g).can_next l.item-iterator;
  ends : (goal.iterator-loop-item g).is_finite l.item-iterator;
  same : l.list.items ≡ l.yielded;
  room : length l.yielded + (goal.iterator-loop-item g).remaining l.item-iterator ≤ vec_capacity l.list;
}
