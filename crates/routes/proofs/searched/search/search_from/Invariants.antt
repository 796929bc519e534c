-- All ways on from the settled stations wait in the queue; each turn takes one out, and a station that is settled puts in at most 16.
use Rattle.std.proofs.Common.{◌≡◌, ◌+◌, ◌-◌, ◌*◌, ◌≤◌, length}
use Rattle.model.specs.Data.{net_of}
use Rattle.queue.specs.Items.{items, room}
use Rattle.routes.proofs.Searching.{Searching}
use Rattle.routes.proofs.searched.search.search_from.Given as goal

abbrev pub invariant-loop-way : goal.invariant-loop-way
invariant-loop-way g l = record {
  searching : Searching g.L.Rank.before g.L.Length.longer (net_of l.search.network.now) g.L.Length.starting l.source g.met.L.Rank.order l.search.settled.items (items l.search.queue) (length l.search.settled.items);
  room : 256 ≤ room l.search.queue;
  network : l.search.network.now ≡ l.network;
}

abbrev pub decreases-loop-way : goal.decreases-loop-way
decreases-loop-way g l = length (items l.search.queue) + 17 * (16 - length l.search.settled.items)
