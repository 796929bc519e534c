use Rattle.std.proofs.Common.{◌≡◌, rules, tests}
use Rattle.std.specs.Option.{option_map}
use Rattle.routes.specs.Legs.{legs, last}
use Rattle.marker.specs.Markings.{on}
use Rattle.marker.proofs.Rows.{last_told}
use Rattle.marker.proofs.marking.Marking.before_transfer.Goals as goal

pub returns : goal.returns
returns g c =
    let e = c.flatten.ensures in
    let told : option_map (λ b. b.now) c.last.result ≡ last (on c.args.self.now legs c.args.i) = last_told _ c.legs.result.now _ c.legs.ensures (cc) e.front e.back e.done c.last.result c.last.ensures.ran (λ x j b. (b.0, b.1)) in
    rw (← told) (search (rules, tests))
