use Rattle.model.specs.Data.{job_of}
use Rattle.routes.specs.RoutedPlans.{on}
use Rattle.session.specs.Shows.{transfer_lines}
use Rattle.session.proofs.Incoming.{edges_begun, edge_written, edges_written}
use Rattle.session.proofs.show.print_incoming.Goals as goal

pub loop-i-init : goal.loop-i-init
loop-i-init g c = edges_begun (job_of c.args.drawn.now.job.now) (on c.args.drawn.now transfer_lines) c.args.task _

pub loop-i-preserved : goal.loop-i-preserved
loop-i-preserved g c = edge_written (job_of c.args.drawn.now.job.now) (on c.args.drawn.now transfer_lines) c.args.task _ _ _ _ _ c.loop-i.i _ c.edges-edge-items.ensures c.loop-i-test.true c.loop-i.invariant c.in_ok-print_into.ensures

pub returns : goal.returns
returns g c = edges_written (job_of c.args.drawn.now.job.now) (on c.args.drawn.now transfer_lines) c.args.task _ _ _ _ c.loop-i.i c.edges-edge-items.ensures c.loop-i-test.false c.loop-i.invariant
