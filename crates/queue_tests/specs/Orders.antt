-- The orders in which tasks, arrivals and stations leave a queue.
use Rattle.std.specs.Prelude.{Bool, not, ◌&&◌, ◌||◌, ◌==◌, nat_lt}
use Rattle.queue_tests.specs.declared.arrival.Arrival.{Arrival}
use Rattle.queue_tests.specs.declared.ready.Ready.{Ready}
use Rattle.queue_tests.specs.declared.ticks.Ticks.{Ticks}
use Rattle.queue_tests.specs.declared.waiting.Waiting.{Waiting}

-- the higher level first, and of one level the lower task
abbrev pub ready_before : Ready → Ready → Bool
ready_before a b = nat_lt b.level a.level || (a.level == b.level && nat_lt a.task b.task)

-- the earlier first, and at one tick the lower edge
abbrev pub arrival_before : Arrival → Arrival → Bool
arrival_before a b = nat_lt a.tick b.tick || (a.tick == b.tick && nat_lt a.edge b.edge)

-- the shorter length first, and of one length the lower station
abbrev pub waiting_before : {V : Type 0} → (V → V → Bool) → Waiting V → Waiting V → Bool
waiting_before below a b = below a.length b.length || (not (below b.length a.length) && nat_lt a.station b.station)

-- fewer ticks are shorter
abbrev pub ticks_below : Ticks → Ticks → Bool
ticks_below a b = nat_lt a.count b.count
