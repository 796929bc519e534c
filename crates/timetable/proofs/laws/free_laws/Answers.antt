use Rattle.timetable.proofs.Frees.{collide_in_words, free_in_words, free_with_one_more, free_among_fewer, free_by_its_own}
use Rattle.timetable.proofs.laws.free_laws.Goals as goal

pub returns : goal.returns
returns c = record {
  collide_in_words = collide_in_words;
  in_words = free_in_words;
  with_one_more = free_with_one_more;
  among_fewer = free_among_fewer;
  by_its_own = free_by_its_own;
}
