use Rattle.std.proofs.Common.{◌≡◌, ap, subst, sym, ◌∙◌, arith}
use Rattle.std.specs.Int.{bit_at}
use Rattle.timetable.specs.Bits.{EachPlace}
use Rattle.timetable.proofs.Words.{one_from, one_from_passed, one_from_found}
use Rattle.timetable.proofs.bits.first_one.Goals as goal

pub returns-clause-passed : goal.returns-clause-passed
returns-clause-passed c =
    let word = c.args.word in
    let from = c.args.from in
    let is : c.min.result ≡ one_from word from = omega arith in
    subst (EachPlace word 0 from) (sym is) (one_from_passed word from (omega arith))

pub returns-clause-found : goal.returns-clause-found
returns-clause-found c = λ inside.
    let word = c.args.word in
    let from = c.args.from in
    let is : c.min.result ≡ one_from word from = omega arith in
    ap (bit_at word) is ∙ one_from_found word from (omega arith) (omega arith)
