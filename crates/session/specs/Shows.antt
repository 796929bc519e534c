-- The lines that show a drawn plan: one for each booking, step by step.
use Rattle.std.specs.Prelude.{ℕ, ◌-◌, List, [], ◌∷◌, ◌++◌, flat_map, codes, decimal}
use Rattle.std.specs.List.{concat}
use Rattle.std.specs.Option.{option_map_or}
use Rattle.model.specs.Bookings.{end}
use Rattle.model.specs.Data.{JobData, NetData}
use Rattle.model.specs.Plans.{PlanData, task_row, task_booking}
use Rattle.model.specs.declared.booking.Booking.{Booking}
use Rattle.routes.specs.Legs.{Ways, legs}
use Rattle.planner.specs.Edges.{incoming}
use Rattle.marker.specs.Verdicts.{verdict}
use Rattle.session.specs.Printing.{verdict_line}

-- task t on its machine
unfoldable pub task_line : ℕ → Booking → List ℕ
task_line t b =
    concat
    (codes "task " ∷ decimal t ∷ codes " on machine " ∷ decimal b.resource ∷ codes " from " ∷ decimal b.start ∷ codes " to "
    ∷ decimal (end b) ∷ codes "\n" ∷ [])

-- the file of edge i on a link; link l is resource 16 + l
unfoldable pub leg_line : ℕ → Booking → List ℕ
leg_line i b =
    concat
    (codes "edge " ∷ decimal i ∷ codes " on link " ∷ decimal (b.resource - 16) ∷ codes " from " ∷ decimal b.start ∷ codes " to "
    ∷ decimal (end b) ∷ codes "\n" ∷ [])

module _ (J : JobData) (N : NetData) (ρ : Ways) (P : PlanData) where
  abbrev pub transfer_lines : ℕ → List ℕ
  transfer_lines i = flat_map (leg_line i) (legs J N ρ P i)

  -- the transfers into task t, by rising number
  abbrev pub incoming_lines : ℕ → List ℕ
  incoming_lines t = flat_map (λ (i, e). transfer_lines i) (incoming J t)

  -- those, and the task
  abbrev pub step_lines : ℕ → List ℕ
  step_lines t = incoming_lines t ++ option_map_or (λ p. task_line t (task_booking J N t p)) (task_row P t) []

  -- the whole plan, and its verdict
  abbrev pub shown : List ℕ
  shown = flat_map step_lines P.steps ++ verdict_line J N P (verdict J N ρ P)
