use Rattle.std.proofs.Common.{◌≡◌}
use Rattle.std.specs.Option.{option_map}
use Rattle.model.specs.Plans.{task_row, task_booking}
use Rattle.routes.specs.RoutedPlans.{on}
use Rattle.marker.proofs.tasks.fn.TaskTable.new.from_fn.Given as goal

abbrev pub ensures : goal.ensures
ensures g l r = r ≡ on l.plan.entry.now (λ J N ρ P. option_map (task_booking J N l.t) (task_row P l.t))
