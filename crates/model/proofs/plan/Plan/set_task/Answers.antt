-- The stations of the rows still fit when a row that fits is written.
use Rattle.std.proofs.Common.{◌≡◌, true, Some, arith}
use Rattle.std.proofs.lemmas.Bool.Decides.{nat_tests}
use Rattle.model.specs.Rows.{station_fits}
use Rattle.model.proofs.Tables.{fits_set}
use Rattle.model.proofs.plan.Plan.set_task.Goals as goal

pub invariant_of-self-clause-stations : goal.invariant_of-self-clause-stations
invariant_of-self-clause-stations c =
    let p = c.args.self.now in
    let fits : station_fits (Some c.args.row) ≡ true = grind (arith, nat_tests) in
    fits_set p.tasks c.args.t (Some c.args.row) p.stations fits
