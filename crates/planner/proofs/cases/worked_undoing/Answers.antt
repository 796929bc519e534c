use Rattle.std.proofs.Common.{refl}
use Rattle.timetable.specs.Tables.{free}
use Rattle.timetable.specs.Earliest.{earliest}
use Rattle.model.specs.Lengths.{ticks}
use Rattle.planner.specs.Drawing.{new_sheet, without_step}
use Rattle.planner.specs.Filling.{filled}
use Rattle.planner.specs.Levels.{levels_from}
use Rattle.planner.specs.Order.{in_order}
use Rattle.planner.specs.Transfers.{carry_on}
use Rattle.planner.specs.Placing.{place_refusal, bring_all, placed}
use Rattle.planner.proofs.cases.worked_undoing.Goals as goal

pub returns : goal.returns
unfolding earliest free ticks in_order carry_on place_refusal bring_all placed new_sheet without_step filled levels_from
returns c = record {
  third = refl;
  second = refl;
  first = refl;
  tried = refl;
  kept = refl;
  struck = refl;
  refused_try = refl;
  refused_strike = refl;
}
