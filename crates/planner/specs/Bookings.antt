-- The bookings of a plan, step by step.
use Rattle.std.specs.Prelude.{ℕ, List, [], ◌∷◌, ◌++◌, flat_map}
use Rattle.std.specs.Option.{option_map_or}
use Rattle.model.specs.Data.{JobData, NetData}
use Rattle.model.specs.Plans.{PlanData, task_row, task_booking}
use Rattle.model.specs.declared.booking.Booking.{Booking}
use Rattle.routes.specs.Legs.{Ways, legs}
use Rattle.planner.specs.Edges.{incoming}

-- the bookings of the step of task t: those of its incoming edges by rising number, hop by hop, then its own
abbrev pub step_bookings : JobData → NetData → Ways → PlanData → ℕ → List Booking
step_bookings J N ρ P t =
    flat_map (λ (i, e). legs J N ρ P i) (incoming J t) ++ option_map_or (λ p. task_booking J N t p ∷ []) (task_row P t) []

abbrev pub plan_bookings : JobData → NetData → Ways → PlanData → List Booking
plan_bookings J N ρ P = flat_map (step_bookings J N ρ P) P.steps
