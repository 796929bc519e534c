use Rattle.timetable.proofs.Changing.{book_keeps_sound, take_back_keeps_sound, take_back_undoes}
use Rattle.timetable.proofs.laws.change_laws.Goals as goal

pub returns : goal.returns
returns c = record {
  book_keeps_sound = book_keeps_sound;
  take_back_keeps_sound = take_back_keeps_sound;
  take_back_undoes = take_back_undoes;
}
