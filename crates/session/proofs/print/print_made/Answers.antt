use Rattle.session.specs.Printing.{made_line}
use Rattle.session.proofs.print.print_made.Goals as goal

pub returns : goal.returns
unfolding made_line
returns g c =
    rw (← c.task_count.ensures.value, ← c.edge_count.ensures.value, ← c.network-network.ensures, ← c.station_count.ensures.value, ← c.link_count.ensures.value, ← c.origin.ensures) c.writeln.ensures.bytes
