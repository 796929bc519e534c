-- What holds of bottom levels, of the order in which fill takes tasks, and of where it places them.
use Rattle.std.specs.Prelude.{◌≡◌, ℕ, ◌+◌, ◌<◌, ◌≤◌, ◌⊎◌, true, false, AllPairs, IsPermutation, map, is_ok, Some, Ok, Err, slice_index}
use Rattle.std.specs.List.{slice_get}
use Rattle.model.specs.Data.{JobData, NetData, task_count, station_count}
use Rattle.model.specs.JobLimits.{JobLimits}
use Rattle.model.specs.Plans.{PlanData}
use Rattle.model.specs.declared.job.Edge.{Edge}
use Rattle.model.specs.declared.refusal.Refusal.{Refusal}
use Rattle.routes.specs.Legs.{Ways}
use Rattle.planner.specs.Edges.{is_placed, outgoing}
use Rattle.planner.specs.Filling.{unplaced_tasks, by_priority, placed_first}
use Rattle.planner.specs.Levels.{greatest, bottom_level}
use Rattle.planner.specs.Outcomes.{DrawState}
use Rattle.planner.specs.Placing.{placed}

-- a task's bottom level is its work plus the greatest of volume plus bottom level over its outgoing edges
abbrev pub BottomLevelInWords : Type 0
BottomLevelInWords =
    (J : JobData) → JobLimits J.works J.edges → (t : ℕ) → t < task_count J → bottom_level J t ≡ slice_index J.works t + greatest (map (λ e. e.volume + bottom_level J e.to) (outgoing J.edges t))

-- along an edge the bottom level falls
abbrev pub BottomLevelsFall : Type 0
BottomLevelsFall = (J : JobData) → JobLimits J.works J.edges → (i : ℕ) (e : Edge) → slice_get J.edges i ≡ Some e → bottom_level J e.to < bottom_level J e.from

-- t has a greater priority than u, or an equal one and a lower number
abbrev pub ComesBefore : (ℕ → ℕ) → ℕ → ℕ → Type 0
ComesBefore priority t u = (priority u < priority t) ⊎ ((priority t ≡ priority u) × (t < u))

-- fill takes the tasks that are not placed, by falling priority, the lowest number first among equals
pub record TakenInOrder (priority : ℕ → ℕ) (J : JobData) (P : PlanData) : Type 0 where
  pub tasks : IsPermutation (unplaced_tasks J P) (by_priority priority (unplaced_tasks J P))
  pub order : AllPairs (ComesBefore priority) (by_priority priority (unplaced_tasks J P))

abbrev pub FillTakesInOrder : Type 0
FillTakesInOrder = (priority : ℕ → ℕ) (J : JobData) (P : PlanData) → TakenInOrder priority J P

-- each task is ready when fill takes it: each of its predecessors was placed before, or is taken before it
abbrev pub TakenWhenReady : Type 0
TakenWhenReady =
    (J : JobData) → JobLimits J.works J.edges → (P : PlanData) (k i : ℕ) (e : Edge) → slice_get J.edges i ≡ Some e → slice_get (by_priority (bottom_level J) (unplaced_tasks J P)) k ≡ Some e.to
    → (is_placed P e.from ≡ true) ⊎ ((j : ℕ) × (j < k) × (slice_get (by_priority (bottom_level J) (unplaced_tasks J P)) j ≡ Some e.from))

-- on its machine task t finishes at f, on no other earlier, and on none of a lower number so early
pub record FinishesFirst (J : JobData) (N : NetData) (ρ : Ways) (S : DrawState) (t f : ℕ) (after : DrawState) : Type 0 where
  pub machine : ℕ
  pub known : machine < station_count N
  pub there : placed J N ρ S t machine ≡ Ok (f, after)
  pub none_earlier : (m g : ℕ) (U : DrawState) → m < station_count N → placed J N ρ S t m ≡ Ok (g, U) → f ≤ g
  pub none_lower : (m g : ℕ) (U : DrawState) → m < machine → placed J N ρ S t m ≡ Ok (g, U) → f < g

-- a task that is placed finishes first where it is placed
abbrev pub PlacedWhereFirst : Type 0
PlacedWhereFirst = (J : JobData) (N : NetData) (ρ : Ways) (S : DrawState) (t f : ℕ) (after : DrawState) → placed_first J N ρ S t ≡ Ok (f, after) → FinishesFirst J N ρ S t f after

-- one that is refused is refused by every machine
abbrev pub RefusedByAll : Type 0
RefusedByAll = (J : JobData) (N : NetData) (ρ : Ways) (S : DrawState) (t : ℕ) (e : Refusal) → placed_first J N ρ S t ≡ Err e → (m : ℕ) → m < station_count N → is_ok (placed J N ρ S t m) ≡ false
