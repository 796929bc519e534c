use Rattle.std.proofs.Common.{drop, flat_map}
use Rattle.model.specs.Data.{job_of}
use Rattle.std.specs.List.{enumerate_from}
use Rattle.routes.specs.RoutedPlans.{on}
use Rattle.session.specs.Shows.{transfer_lines, incoming_lines}
use Rattle.session.proofs.Lists.{Left}
use Rattle.session.proofs.Incoming.{lines_into}
use Rattle.session.proofs.show.print_incoming.Given as goal

abbrev pub invariant-loop-i : goal.invariant-loop-i
invariant-loop-i g l =
    Left (g.W.Write.contents l.initial.out) (g.W.Write.contents l.out)
    (flat_map (lines_into (on l.drawn transfer_lines) l.task) (drop l.i (enumerate_from 0 (job_of l.drawn.job.now).edges))) (on l.drawn incoming_lines l.task)
