use Rattle.std.proofs.Common.{◌≡◌, eqb, rules, tests}
use Rattle.std.specs.Option.{option_map, option_to_list}
use Rattle.std.specs.List.{find, flat_map}
use Rattle.model.specs.Bookings.{link_resource}
use Rattle.marker.proofs.Rows.{find_booking}
use Rattle.marker.proofs.spans.span_on_link.Goals as goal

pub returns : goal.returns
returns c =
    let e = c.flatten.ensures in
    let l = c.args.l in
    let found : option_map (λ b. b.now) c.find.result ≡ find (λ b. eqb b.resource (link_resource l)) (flat_map option_to_list c.args.row.now) = find_booking _ c.args.row.now (cc) e.front e.back e.done (λ b. eqb b.resource (link_resource l)) _ _ c.find.result c.find.ensures.ran (λ x j b. (b.0, b.1)) (λ x b q k. search (rules, tests)) in
    rw (← found) (search (rules, tests))
