use Rattle.std.proofs.Common.{drop, flat_map}
use Rattle.routes.specs.Legs.{legs}
use Rattle.routes.specs.RoutedPlans.{on}
use Rattle.session.specs.Shows.{leg_line, transfer_lines}
use Rattle.session.proofs.Lists.{Left}
use Rattle.session.proofs.show.print_transfer.Given as goal

abbrev pub invariant-loop-hop : goal.invariant-loop-hop
invariant-loop-hop g l =
    Left (g.W.Write.contents l.initial.out) (g.W.Write.contents l.out) (flat_map (leg_line l.edge) (drop l.hop (on l.drawn legs l.edge))) (on l.drawn transfer_lines l.edge)
