use Rattle.std.proofs.Common.{refl}
use Rattle.timetable.specs.Tables.{free}
use Rattle.timetable.specs.Earliest.{earliest}
use Rattle.model.specs.Lengths.{ticks}
use Rattle.model.specs.Lowest.{lowest}
use Rattle.planner.specs.Drawing.{new_sheet, without_step}
use Rattle.planner.specs.Filling.{filled}
use Rattle.planner.specs.Levels.{levels_from}
use Rattle.planner.specs.Order.{in_order}
use Rattle.planner.specs.Transfers.{carry_on}
use Rattle.planner.specs.Placing.{place_refusal, bring_all, placed}
use Rattle.marker.specs.Verdicts.{any, search_rule, search_rules, verdict}
use Rattle.certificate.specs.Calls.{after, told}
use Rattle.certificate.proofs.cases.worked_cases.Goals as goal

pub returns : goal.returns
unfolding earliest free ticks in_order carry_on place_refusal bring_all placed new_sheet without_step filled levels_from lowest any search_rule search_rules verdict after told
returns c = record {
  placed = refl;
  bookings = refl;
  lawful = refl;
  done_before_the_first_link = refl;
  done_after_its_task_began = refl;
  filled = refl;
  all_on_one = refl;
  fills_the_gap = refl;
  past_the_gap = refl;
  up_to_the_horizon = refl;
  past_the_horizon = refl;
  touching = refl;
  sharing_a_tick = refl;
}
