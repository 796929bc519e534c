-- What placing does to a state that is in order, and what taking back then does.
use Rattle.std.specs.Prelude.{◌≡◌, ℕ, Some, Ok}
use Rattle.model.specs.Data.{JobData, NetData}
use Rattle.model.specs.Plans.{last_step}
use Rattle.routes.specs.Legs.{Ways}
use Rattle.planner.specs.Drawing.{without_step}
use Rattle.planner.specs.Outcomes.{DrawState}
use Rattle.planner.specs.Placing.{placed}
use Rattle.planner.specs.States.{Given, Ordered}

-- a task that is placed leaves the state in order
abbrev pub PlacingKeepsOrder : Type 0
PlacingKeepsOrder = (J : JobData) (N : NetData) (ρ : Ways) → Given J N ρ → (S after : DrawState) (t m f : ℕ) → Ordered J N ρ S → placed J N ρ S t m ≡ Ok (f, after) → Ordered J N ρ after

-- the last step is that of task t, and the state without it is S
pub record Undoes (J : JobData) (N : NetData) (ρ : Ways) (S after : DrawState) (t : ℕ) : Type 0 where
  pub last : last_step after.plan ≡ Some t
  pub before : without_step J N ρ after t ≡ S

-- a step that is taken back leaves no trace
abbrev pub TakeBackUndoesPlace : Type 0
TakeBackUndoesPlace = (J : JobData) (N : NetData) (ρ : Ways) → Given J N ρ → (S after : DrawState) (t m f : ℕ) → Ordered J N ρ S → placed J N ρ S t m ≡ Ok (f, after) → Undoes J N ρ S after t
