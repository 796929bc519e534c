use Rattle.std.proofs.Common.{◌≡◌, Ok, None, rules, tests}
use Rattle.script.specs.Lines.{lines_left}
use Rattle.session.specs.Statements.{to_come}
use Rattle.session.proofs.Reading.{said_given}
use Rattle.session.proofs.reader.ReaderIterator.next.Goals.{in-Ok-None, in_default-matches, in_default-matches-2}
use Rattle.session.proofs.reader.ReaderIterator.next.Goals as goal

pub returns-then-not-matches-clause-steps : goal.returns-then-not-matches-clause-steps
returns-then-not-matches-clause-steps c =
    let some : c.read_line-said.result ≡ Ok None → ⊥ = λ none. elim c.match-matches.branch [
      | in-Ok-None w ↦ search (rules, tests)
      | in_default-matches w ↦ search (rules, tests)
      | in_default-matches-2 w ↦ search (rules, tests)
    ] in (
      said_given c.loop-bytes.self.number (to_come c.args.self.now) c.in-Some-next.bytes.now (lines_left c.loop-bytes.self.lines) (lines_left c.next.new.self) c.loop-bytes.invariant.so_far
          (record { first = c.in-Some-next.ensures.line; left = c.next.ensures.left }) c.read_line-said.result c.transpose.result c.transpose.ensures some c.read_line-said.ensures.answer,
      c.loop-bytes.invariant.none_back,
      search rules,
    )
