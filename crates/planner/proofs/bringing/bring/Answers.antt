use Rattle.std.proofs.Common.{refl}
use Rattle.model.specs.Plans.{plan_of, starts_of}
use Rattle.planner.proofs.Incoming.{row_written, rewritten}
use Rattle.planner.proofs.bringing.bring.Goals as goal

pub returns-clause-row : goal.returns-clause-row
returns-clause-row g c =
    let P = plan_of c.args.plan.now in
    let Q = plan_of c.set_transfer.new.self in
    let i = c.args.numbered.0 in
    let ss = starts_of c.in_ok-booked.booked.row in
    rewritten P Q i ss (row_written P Q i ss ss _ c.set_transfer.ensures.plan c.set_transfer.ensures.fits c.requires.known refl)
