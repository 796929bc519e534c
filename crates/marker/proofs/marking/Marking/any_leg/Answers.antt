use Rattle.std.proofs.Common.{rules, tests, of_calls}
use Rattle.marker.proofs.Rows.{any_told}
use Rattle.marker.proofs.marking.Marking.any_leg.Goals as goal

pub returns : goal.returns
returns g c passes by =
    let e = c.flatten.ensures in
    any_told _ c.legs.result.now _ c.legs.ensures (cc) e.front e.back e.done passes _ _ c.any.result c.any.ensures.ran (λ x j b. (b.0, b.1)) (λ x b q k. (search (rules, tests), by x b (search (rules, tests, of_calls))))
