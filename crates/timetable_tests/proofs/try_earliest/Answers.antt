use Rattle.std.proofs.Common.{ap, ◌∙◌}
use Rattle.timetable.specs.Changes.{taken_back}
use Rattle.timetable_tests.proofs.Booked.{undone}
use Rattle.timetable_tests.proofs.try_earliest.Goals as goal

pub returns-clause-unchanged : goal.returns-clause-unchanged
returns-clause-unchanged g c =
    c.take_back.ensures.after
    ∙ ap taken_back c.book_earliest.ensures.after
    ∙ undone (g.T.Askable.meaning c.args.table.now) c.args.resource c.args.from c.args.ticks c.in_ok-book_earliest.field-0 c.in_ok-book_earliest.ensures.answer
