use Rattle.routes.specs.Legs.{legs}
use Rattle.routes.specs.RoutedPlans.{on}
use Rattle.session.specs.Shows.{leg_line}
use Rattle.session.proofs.Lists.{item_written}
use Rattle.session.proofs.show.print_transfer.Goals as goal

pub loop-hop-preserved : goal.loop-hop-preserved
loop-hop-preserved g c = item_written (leg_line c.args.edge) _ _ _ _ (on c.args.drawn.now legs c.args.edge) c.loop-hop.hop c.loop-hop.invariant c.in_ok-print_hop.ensures
