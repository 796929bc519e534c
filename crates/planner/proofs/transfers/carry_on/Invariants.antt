use Rattle.std.proofs.Common.{◌-◌, length, drop}
use Rattle.model.specs.Data.{net_of}
use Rattle.model.specs.Plans.{starts_of}
use Rattle.routes.specs.Hops.{hops_of}
use Rattle.planner.specs.Booked.{after_starts}
use Rattle.planner.specs.Transfers.{carry_on}
use Rattle.planner.proofs.Carrying.{Underway}
use Rattle.planner.proofs.transfers.carry_on.Given as goal

abbrev pub invariant-loop-hop : goal.invariant-loop-hop
invariant-loop-hop g l =
    let N = net_of (g.R.Routes.over l.routes) in
    let hops = hops_of (g.R.Routes.route l.routes l.transfer.from l.transfer.to) in
    let A = g.T.Askable.meaning l.initial.table in
    let before = l.initial.booked in
    let ss = starts_of before.row in
    Underway N l.transfer.volume l.first hops
    (after_starts ss (carry_on N l.transfer.volume l.first before.arrival (drop (length ss) hops) A))
    A (length ss) (starts_of l.booked.row) l.booked.arrival (g.T.Askable.meaning l.table)

abbrev pub decreases-loop-hop : goal.decreases-loop-hop
decreases-loop-hop g l = length (hops_of (g.R.Routes.route l.routes l.transfer.from l.transfer.to)) - length (starts_of l.booked.row)
