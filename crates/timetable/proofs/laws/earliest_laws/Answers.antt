use Rattle.timetable.proofs.Earliests.{earliest_is_first, no_earliest, earliest_is_an_end, earliest_by_its_own}
use Rattle.timetable.proofs.laws.earliest_laws.Goals as goal

pub returns : goal.returns
returns c = record {
  is_first = earliest_is_first;
  is_none = no_earliest;
  is_an_end = earliest_is_an_end;
  by_its_own = earliest_by_its_own;
}
