use Rattle.timetable.proofs.Sounds.{sound_by_test, sound_when_empty, sound_with_one_more, sound_where_free, sound_in_any_order, sound_in_part}
use Rattle.timetable.proofs.laws.sound_laws.Goals as goal

pub returns : goal.returns
returns c = record {
  by_test = sound_by_test;
  when_empty = sound_when_empty;
  with_one_more = sound_with_one_more;
  where_free = sound_where_free;
  in_any_order = sound_in_any_order;
  in_part = sound_in_part;
}
