use Rattle.std.proofs.Common.{vec_items, ◌∙◌, arith}
use Rattle.model.specs.Bookings.{collide}
use Rattle.timetable.specs.Rolls.{roll_table}
use Rattle.timetable.proofs.Counts.{length_same, list_any_same}
use Rattle.timetable.proofs.Frees.{test_from_clear, words_from_free}
use Rattle.timetable.proofs.roll.Roll.keep.Goals as goal

pub insert-requires : goal.insert-requires
insert-requires c =
    let roll = c.args.self.now in
    let b = c.args.booking in
    let long = length_same (vec_items roll.bookings) roll.by_start.list.items roll.same_bookings in
    let free = words_from_free (roll_table roll) b.resource b.start b.length c.requires.free in
    record {
      room = omega (arith, long, roll.bookings.ok, roll.by_start.list.ok);
      clear = list_any_same (vec_items roll.bookings) roll.by_start.list.items roll.same_bookings (collide b) ∙ test_from_clear _ _ free.clear;
      some_ticks = free.some_tick;
    }
