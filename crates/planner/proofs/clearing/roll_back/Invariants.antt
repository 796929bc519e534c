use Rattle.std.proofs.Common.{◌≡◌, length}
use Rattle.planner.specs.Booked.{first_bookings}
use Rattle.planner.proofs.clearing.roll_back.Given as goal

abbrev pub invariant-loop-table : goal.invariant-loop-table
invariant-loop-table g l =
    first_bookings l.count (g.T.Askable.meaning l.table) ≡ first_bookings l.count (g.T.Askable.meaning l.initial.table)

abbrev pub decreases-loop-table : goal.decreases-loop-table
decreases-loop-table g l = length (g.T.Askable.meaning l.table).bookings
