-- States that are reached by placing tasks.
use Rattle.std.specs.Prelude.{◌≡◌, ℕ, Ok, Err, Result}
use Rattle.model.specs.Data.{JobData, NetData}
use Rattle.model.specs.declared.refusal.Refusal.{Refusal}
use Rattle.routes.specs.Legs.{Ways}
use Rattle.planner.specs.Outcomes.{DrawState}
use Rattle.planner.specs.Placing.{placed}
use Rattle.planner.specs.States.{Ordered}

-- the states that S becomes as tasks are placed
pub data Reached (J : JobData) (N : NetData) (ρ : Ways) (S : DrawState) : DrawState → Type 0 where
  itself : Reached J N ρ S S
  one_more : {U V : DrawState} (t m f : ℕ) → Reached J N ρ S U → placed J N ρ U t m ≡ Ok (f, V) → Reached J N ρ S V

-- U is reached from S, which is in order and counts so many steps
pub record ReachedFrom (J : JobData) (N : NetData) (ρ : Ways) (count : ℕ) (U S : DrawState) : Type 0 where
  pub ordered : Ordered J N ρ S
  pub counted : S.count ≡ count
  pub reached : Reached J N ρ S U

-- some calls one after the other, the last of which left S, or the refusal that ended them
abbrev pub run_to : Result (Unit {0}) Refusal → DrawState → Result DrawState Refusal
run_to (Ok _) S = Ok S
run_to (Err e) S = Err e
