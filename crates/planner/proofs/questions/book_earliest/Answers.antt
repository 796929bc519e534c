-- A booking at an earliest start is not refused.
use Rattle.std.proofs.Common.{sym}
use Rattle.planner.proofs.Asking.{earliest_taken}
use Rattle.planner.proofs.questions.book_earliest.Goals as goal

pub returns-in_err-book-clause-answer : goal.returns-in_err-book-clause-answer
returns-in_err-book-clause-answer g c =
    absurd (earliest_taken (g.T.Askable.meaning c.args.table.now) c.args.resource c.args.from c.args.ticks c.in-Some.start c.in_err-book.field-0.0 (sym c.in-Some.ensures) c.requires (sym c.in_err-book.ensures.answer))
