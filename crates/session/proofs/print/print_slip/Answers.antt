use Rattle.session.specs.Printing.{slip_line}
use Rattle.session.proofs.print.print_slip.Goals as goal

pub returns-in-Lawful : goal.returns-in-Lawful
unfolding slip_line
returns-in-Lawful g c = rw (c.in-Lawful.is, ← c.task_count.ensures.value) c.writeln.ensures.bytes
