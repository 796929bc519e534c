use Rattle.std.proofs.Common.{refl}
use Rattle.timetable.specs.Tables.{free}
use Rattle.timetable.specs.Earliest.{earliest}
use Rattle.model.specs.Lengths.{ticks}
use Rattle.planner.specs.Drawing.{new_sheet, without_step}
use Rattle.planner.specs.Filling.{filled}
use Rattle.planner.specs.Levels.{levels_from}
use Rattle.planner.specs.Order.{in_order}
use Rattle.planner.specs.Transfers.{carry_on}
use Rattle.planner.specs.Placing.{place_refusal, bring_all, placed}
use Rattle.planner.proofs.cases.worked_plan.Goals as goal

pub returns-clause-plan : goal.returns-clause-plan
unfolding earliest free ticks in_order carry_on place_refusal bring_all placed new_sheet without_step filled levels_from
returns-clause-plan c = record {
  first = refl;
  second = refl;
  third = refl;
}

pub returns-clause-transfers : goal.returns-clause-transfers
unfolding earliest free ticks in_order carry_on place_refusal bring_all placed new_sheet without_step filled levels_from
returns-clause-transfers c = record {
  waits = refl;
  not_before_the_first = refl;
  no_hop = refl;
}

pub returns-clause-join : goal.returns-clause-join
unfolding earliest free ticks in_order carry_on place_refusal bring_all placed new_sheet without_step filled levels_from
returns-clause-join c = record {
  placing = refl;
  taking_back = refl;
  lowest_predecessor = refl;
  next_predecessor = refl;
  predecessor_before_route = refl;
  lowest_edge = refl;
  higher_edge = refl;
}
