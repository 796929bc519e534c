use Rattle.std.proofs.Common.{refl}
use Rattle.timetable.specs.Tables.{free}
use Rattle.timetable.specs.Earliest.{earliest}
use Rattle.timetable.proofs.laws.worked_cases.Goals as goal

pub returns : goal.returns
unfolding earliest free
returns c = record {
  fills_the_gap = refl;
  past_the_gap = refl;
  inside_the_gap = refl;
  late_in_the_gap = refl;
  before_the_end = refl;
  too_near_the_end = refl;
  up_to_the_horizon = refl;
  past_the_horizon = refl;
  no_ticks = refl;
  last_resource = refl;
  no_such_resource = refl;
}
