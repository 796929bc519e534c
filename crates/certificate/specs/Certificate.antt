-- What is certified of every plan that is drawn.
use Rattle.std.specs.Prelude.{◌≡◌, ℕ, ◌≤◌, ◌≢◌, [], List, Some, Ok}
use Rattle.std.specs.List.{slice_get}
use Rattle.model.specs.Data.{JobData, NetData}
use Rattle.model.specs.Plans.{PlanData, task_row, starts}
use Rattle.model.specs.declared.plan.Placement.{Placement}
use Rattle.routes.specs.Legs.{Ways}
use Rattle.timetable.specs.Tables.{Table}
use Rattle.planner.specs.Drawing.{new_state}
use Rattle.planner.specs.Outcomes.{DrawState}
use Rattle.planner.specs.Placing.{placed}
use Rattle.planner.specs.States.{Given}
use Rattle.marker.specs.Verdicts.{verdict}
use Rattle.marker.specs.declared.verdict.Verdict.TheVariants.{Lawful}

-- an empty timetable, as every timetable is at first; none has a later horizon
pub record EmptyTable (T : Table) : Type 0 where
  pub none_booked : T.bookings ≡ []
  pub horizon : T.horizon ≤ 2000000000

-- the states that drawing leads to: a new sheet, and what one more place leaves
pub data Drawn (J : JobData) (N : NetData) (ρ : Ways) : DrawState → Type 0 where
  new_sheet : (T : Table) → EmptyTable T → Drawn J N ρ (new_state T)
  one_more : {S after : DrawState} (t m f : ℕ) → Drawn J N ρ S → placed J N ρ S t m ≡ Ok (f, after) → Drawn J N ρ after

-- the marker's verdict on the plan is lawful
abbrev pub IsLawful : JobData → NetData → Ways → PlanData → Type 0
IsLawful J N ρ P = verdict J N ρ P ≡ Lawful

-- Q's rows are P's but for the start of task t, which is placed as p in P and as q in Q
pub record ButForTask (P Q : PlanData) (t : ℕ) (p q : Placement) : Type 0 where
  pub drawn : task_row P t ≡ Some p
  pub other : task_row Q t ≡ Some q
  pub station : q.station ≡ p.station
  pub tasks : (u : ℕ) → u ≢ t → task_row Q u ≡ task_row P u
  pub transfers : (i : ℕ) → starts Q i ≡ starts P i

-- Q's rows are P's but for the starts of transfer i
pub record ButForTransfer (P Q : PlanData) (i : ℕ) : Type 0 where
  pub tasks : (u : ℕ) → task_row Q u ≡ task_row P u
  pub transfers : (j : ℕ) → j ≢ i → starts Q j ≡ starts P j

-- for each of these starts, hop by hop, there is another, and it is no earlier
abbrev pub NoneEarlier : List ℕ → List ℕ → Type 0
NoneEarlier drawn other = (k s : ℕ) → slice_get drawn k ≡ Some s → (r : ℕ) × (slice_get other k ≡ Some r) × (s ≤ r)

-- the plan is lawful, and nothing in it could begin earlier
pub record Certified (J : JobData) (N : NetData) (ρ : Ways) (P : PlanData) : Type 0 where
  pub lawful : IsLawful J N ρ P
  pub task_first : (Q : PlanData) (t : ℕ) (p q : Placement) → IsLawful J N ρ Q → ButForTask P Q t p q → p.start ≤ q.start
  pub transfer_first : (Q : PlanData) (i : ℕ) → IsLawful J N ρ Q → ButForTransfer P Q i → NoneEarlier (starts P i) (starts Q i)

abbrev pub EveryDrawnPlan : Type 0
EveryDrawnPlan = (J : JobData) (N : NetData) (ρ : Ways) → Given J N ρ → (S : DrawState) → Drawn J N ρ S → Certified J N ρ S.plan
