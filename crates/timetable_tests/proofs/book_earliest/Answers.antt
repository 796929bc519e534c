use Rattle.std.proofs.Common.{◌≡◌, Some, sym, subst, rules}
use Rattle.std.proofs.lemmas.Result.{err_from_is_err_and}
use Rattle.timetable.specs.Earliest.{earliest}
use Rattle.timetable.specs.Sound.{Sound}
use Rattle.timetable.specs.Tables.{span}
use Rattle.timetable.proofs.Changing.{book_keeps_sound}
use Rattle.timetable.proofs.Earliests.{first_words}
use Rattle.timetable_tests.proofs.Booked.{refused}
use Rattle.timetable_tests.proofs.book_earliest.Goals as goal

pub returns-in_err-book-clause-answer : goal.returns-in_err-book-clause-answer
returns-in_err-book-clause-answer g c =
    let T = g.T.Askable.meaning c.args.table.now in
    let p = err_from_is_err_and c.from_residual-in_err-book.result c.from_residual-in_err-book.ensures.1 in
    let at : earliest T c.args.resource c.args.from c.args.ticks ≡ Some c.in_ok-start.start = search rules in
    rw (p.1, p.2) (refused T c.args.resource c.args.from c.args.ticks c.in_ok-start.start _ at c.in_err-book.ensures.answer)

pub returns-clause-is_earliest : goal.returns-clause-is_earliest
returns-clause-is_earliest g c =
    let T = g.T.Askable.meaning c.args.table.now in
    let at : earliest T c.args.resource c.args.from c.args.ticks ≡ Some c.in_ok-start.start = search rules in
    first_words T c.args.resource c.args.ticks c.args.from c.in_ok-start.start at

pub returns-clause-keeps_sound : goal.returns-clause-keeps_sound
returns-clause-keeps_sound g c =
    λ sound. subst Sound (sym c.book.ensures.after) (book_keeps_sound (g.T.Askable.meaning c.args.table.now) (span c.args.resource c.in_ok-start.start c.args.ticks) sound)
