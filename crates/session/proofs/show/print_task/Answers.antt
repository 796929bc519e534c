use Rattle.session.specs.Shows.{task_line}
use Rattle.session.proofs.show.print_task.Goals as goal

pub returns : goal.returns
unfolding task_line
returns g c = rw (← c.end.ensures.value) c.writeln.ensures.bytes
