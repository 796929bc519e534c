use Rattle.std.proofs.Common.{◌++◌, drop, flat_map}
use Rattle.model.specs.Plans.{plan_of}
use Rattle.marker.specs.Verdicts.{verdict}
use Rattle.routes.specs.RoutedPlans.{on}
use Rattle.session.specs.Printing.{verdict_line}
use Rattle.session.specs.Shows.{step_lines, shown}
use Rattle.session.proofs.Lists.{Left}
use Rattle.session.proofs.show.print_plan.Given as goal

abbrev pub invariant-loop-task : goal.invariant-loop-task
invariant-loop-task g l =
    Left (g.W.Write.contents l.initial.out) (g.W.Write.contents l.out)
    (flat_map (on l.drawn step_lines) (drop l.task-index (plan_of l.drawn.plan.now).steps) ++ on l.drawn (λ J N ρ P. verdict_line J N P (verdict J N ρ P))) (on l.drawn shown)
