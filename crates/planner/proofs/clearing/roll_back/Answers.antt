use Rattle.std.proofs.Common.{◌<◌, ◌-◌, length, sym, ap, ◌∙◌, arith}
use Rattle.planner.specs.Booked.{first_bookings}
use Rattle.planner.proofs.Fronts.{first_all, first_first, first_length, one_back}
use Rattle.planner.proofs.clearing.roll_back.Goals as goal

pub loop-table-smaller : goal.loop-table-smaller
loop-table-smaller g c =
    let T = g.T.Askable.meaning c.loop-table.table in
    let some : c.args.count < length T.bookings = omega (arith, c.loop-table-test.true, c.count.ensures) in
    let back = c.take_back.ensures.after ∙ one_back T c.args.count some in
    omega (arith, ap (λ X. length X.bookings) back, first_length T (length T.bookings - 1))

pub loop-table-preserved : goal.loop-table-preserved
loop-table-preserved g c =
    let T = g.T.Askable.meaning c.loop-table.table in
    let some : c.args.count < length T.bookings = omega (arith, c.loop-table-test.true, c.count.ensures) in
    ap (first_bookings c.args.count) (c.take_back.ensures.after ∙ one_back T c.args.count some)
    ∙ first_first T c.args.count (length T.bookings - 1) (omega arith)
    ∙ c.loop-table.invariant

pub returns : goal.returns
returns g c =
    let T = g.T.Askable.meaning c.loop-table.table in
    sym (first_all T c.args.count (omega (arith, c.loop-table-test.false, c.count.ensures))) ∙ c.loop-table.invariant
