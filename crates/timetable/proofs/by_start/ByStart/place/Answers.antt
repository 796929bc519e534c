use Rattle.std.proofs.Common.{sym, subst, rules}
use Rattle.std.specs.List.Sorted.{IsPartitionedBy}
use Rattle.std.proofs.lemmas.List.Sorted.{IsPartitionPoint-from_clause}
use Rattle.model.specs.declared.booking.Booking.{Booking}
use Rattle.timetable.specs.Order.{precedes}
use Rattle.timetable.proofs.Passes.{IsPlace, parted}
use Rattle.timetable.proofs.by_start.ByStart.place.Goals as goal

pub returns-clause-splits : goal.returns-clause-splits
returns-clause-splits c =
    let own = c.args.self.now in
    let w = c.args.booking.now in
    let early = λ (b : Booking). precedes b w in
    let slice = c.deref.ensures.value in
    let sorted = subst (IsPartitionedBy early) (sym slice) (parted own.list.items own.in_order own.some_ticks w) in
    let point = IsPartitionPoint-from_clause early _ _ c.partition_point.ensures.partitioned sorted (λ a r q k. search rules) in
    subst (λ xs. IsPlace w xs c.partition_point.result) slice point
