use Rattle.std.proofs.Common.{refl}
use Rattle.timetable.specs.Tables.{free}
use Rattle.timetable.specs.Earliest.{earliest}
use Rattle.model.specs.Lengths.{ticks}
use Rattle.planner.specs.Drawing.{new_sheet, without_step}
use Rattle.planner.specs.Filling.{filled}
use Rattle.planner.specs.Levels.{levels_from}
use Rattle.planner.specs.Order.{in_order}
use Rattle.planner.specs.Transfers.{carry_on}
use Rattle.planner.specs.Placing.{place_refusal, bring_all, placed}
use Rattle.planner.proofs.cases.worked_disorder.Goals as goal

pub returns-clause-states : goal.returns-clause-states
unfolding earliest free ticks in_order carry_on place_refusal bring_all placed new_sheet without_step filled levels_from
returns-clause-states c = record {
  counts_differ = refl;
  step_unplaced = refl;
  step_twice = refl;
  task_no_step = refl;
  goal_no_step = refl;
  rule_a_task = refl;
  rule_a_machine = refl;
  rule_a_edge = refl;
  rule_b = refl;
  rule_c_no_route = refl;
  rule_c_no_starts = refl;
  rule_c_one_machine = refl;
  other_resource = refl;
  other_start = refl;
  other_length = refl;
  fewer_bookings = refl;
  more_bookings = refl;
}

pub returns-clause-calls : goal.returns-clause-calls
unfolding earliest free ticks in_order carry_on place_refusal bring_all placed new_sheet without_step filled levels_from
returns-clause-calls c = record {
  placing = refl;
  trying = refl;
  taking_back = refl;
  filling = refl;
  with_bookings = refl;
  with_none = refl;
}
