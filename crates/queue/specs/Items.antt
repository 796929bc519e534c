-- What a queue stands for; r is the order of its elements.
use Rattle.std.specs.Prelude.{ℕ, List, length, take}
use Rattle.queue.specs.declared.heap.Queue.{Queue}

-- the elements held, in no order that a caller can rely on
abbrev pub items : {X : Type 0} {r : _} → Queue X r → List X
items q = take q.len q.slots.now

-- how many elements it can hold
abbrev pub room : {X : Type 0} {r : _} → Queue X r → ℕ
room q = length q.slots.now
