-- The best ways on to the first stations are in the queue, beside what it held.
use Rattle.std.proofs.Common.{◌≡◌, ◌+◌, ◌≤◌, ◌++◌, length}
use Rattle.std.specs.List.Sorted.{IsPermutation}
use Rattle.queue.specs.Items.{items, room}
use Rattle.model.specs.Data.{net_of, station_count}
use Rattle.routes.specs.Offers.{offers_below}
use Rattle.routes.proofs.searched.search.Search.settle.Given as goal

abbrev pub invariant-loop-t : goal.invariant-loop-t
invariant-loop-t g l = record {
  taken : IsPermutation (offers_below g.L.Rank.before g.L.Length.longer (net_of l.self.network.now) l.self.settled.items (l.i, l.way) l.t ++ items l.initial.self.queue) (items l.self.queue);
  count : length (items l.self.queue) ≤ length (items l.initial.self.queue) + l.t;
  same_room : room l.self.queue ≡ room l.initial.self.queue;
  known : l.t-end ≤ station_count (net_of l.self.network.now);
  same_network : l.self.network ≡ l.initial.self.network;
  same_settled : l.self.settled ≡ l.initial.self.settled;
}
