-- The stations of the rows still fit when a row is cleared.
use Rattle.std.proofs.Common.{None, refl}
use Rattle.model.proofs.Tables.{fits_set}
use Rattle.model.proofs.plan.Plan.clear_task.Goals as goal

pub invariant_of-self-clause-stations : goal.invariant_of-self-clause-stations
invariant_of-self-clause-stations c =
    let p = c.args.self.now in
    fits_set p.tasks c.args.t None p.stations refl
