-- A table of the bookings of all tasks: what it says.
use Rattle.std.specs.Prelude.{◌≡◌, ℕ, None, slice_index_or}
use Rattle.std.specs.Option.{option_map}
use Rattle.model.specs.Plans.{task_row, task_booking}
use Rattle.routes.specs.RoutedPlans.{on}
use Rattle.routes.specs.declared.legs.RoutedPlan.{RoutedPlan}
use Rattle.marker.specs.declared.tasks.TaskTable.{TaskTable}

-- the table has the booking of each task that this plan places, and no other
abbrev pub TasksTell : {X : Type 0} {r : _} → TaskTable → RoutedPlan X r → Type 0
TasksTell T p = (t : ℕ) → slice_index_or T.bookings t None ≡ on p (λ J N ρ P. option_map (task_booking J N t) (task_row P t))
