use Rattle.std.proofs.Common.{refl}
use Rattle.timetable.specs.Tables.{free}
use Rattle.timetable.specs.Earliest.{earliest}
use Rattle.model.specs.Lengths.{ticks}
use Rattle.planner.specs.Drawing.{new_sheet, without_step}
use Rattle.planner.specs.Filling.{filled}
use Rattle.planner.specs.Levels.{levels_from}
use Rattle.planner.specs.Order.{in_order}
use Rattle.planner.specs.Transfers.{carry_on}
use Rattle.planner.specs.Placing.{place_refusal, bring_all, placed}
use Rattle.planner.proofs.cases.worked_refusals.Goals as goal

pub returns-clause-causes : goal.returns-clause-causes
unfolding earliest free ticks in_order carry_on place_refusal bring_all placed new_sheet without_step filled levels_from
returns-clause-causes c = record {
  no_such_task = refl;
  not_a_machine = refl;
  already_placed = refl;
  predecessor_unplaced = refl;
  nothing_to_take_back = refl;
  no_route = refl;
  no_room = refl;
  just_room = refl;
  no_start_on_a_link = refl;
  no_start_on_the_machine = refl;
  every_machine_refuses = refl;
}

pub returns-clause-order : goal.returns-clause-order
unfolding earliest free ticks in_order carry_on place_refusal bring_all placed new_sheet without_step filled levels_from
returns-clause-order c = record {
  task_first = refl;
  machine_next = refl;
  route_before_room = refl;
  room_before_start = refl;
  on_one_machine = refl;
}
