-- What holds of a plan and the ledger of its table while it is drawn. Membership is `In` of Entries.
use Rattle.std.proofs.Common.{◌≡◌, ℕ, ◌<◌, ◌≤◌, true, List, [], length, Some}
use Rattle.std.specs.List.{slice_get}
use Rattle.model.specs.Data.{JobData, NetData, is_machine, task_length}
use Rattle.model.specs.Plans.{PlanData, task_row, starts, task_booking, finish}
use Rattle.model.specs.declared.booking.Booking.{Booking}
use Rattle.model.specs.declared.job.Edge.{Edge}
use Rattle.model.specs.declared.plan.Placement.{Placement}
use Rattle.routes.specs.Legs.{Ways, way, legs}
use Rattle.routes.specs.declared.hop.Hop.{Hop}
use Rattle.planner.specs.Outcomes.{DrawState}
use Rattle.certificate.proofs.Entries.{In, task, edge, Entry, own, Busy, Ledger}
use Rattle.certificate.proofs.Hops.{arrival, Leaves}

-- all that the edges into t bring is there by s
abbrev pub Ready : JobData → NetData → Ways → PlanData → ℕ → ℕ → Type 0
Ready J N ρ P t s = (i : ℕ) (e : Edge) (p : Placement) → slice_get J.edges i ≡ Some e → e.to ≡ t → task_row P e.from ≡ Some p → arrival (finish J N e.from p) (legs J N ρ P i) ≤ s

-- the edges' part: the ledger has their legs and no others, and these leave in order, each as early as it can
pub record EdgesHeld (J : JobData) (N : NetData) (ρ : Ways) (P : PlanData) (L : List Entry) : Type 0 where
  pub edge_in : (i : ℕ) (b : Booking) → In b (legs J N ρ P i) → In (own (edge i) b) L
  pub in_edge : (i : ℕ) (b : Booking) → In (own (edge i) b) L → In b (legs J N ρ P i)
  pub leaves : (i : ℕ) (e : Edge) (p : Placement) → slice_get J.edges i ≡ Some e → task_row P e.from ≡ Some p → Leaves L (edge i) (finish J N e.from p) (legs J N ρ P i)

-- the tasks' part: the ledger has their bookings and no others, and each starts when all is there, as early as it can
pub record TasksHeld (J : JobData) (N : NetData) (ρ : Ways) (P : PlanData) (L : List Entry) : Type 0 where
  pub task_in : (t : ℕ) (p : Placement) → task_row P t ≡ Some p → In (own (task t) (task_booking J N t p)) L
  pub in_task : (t : ℕ) (b : Booking) → In (own (task t) b) L → (p : Placement) × (task_row P t ≡ Some p) × (b ≡ task_booking J N t p)
  pub ready : (t : ℕ) (p : Placement) → task_row P t ≡ Some p → Ready J N ρ P t p.start
  pub tight : (t : ℕ) (p : Placement) → task_row P t ≡ Some p → (s : ℕ) → Ready J N ρ P t s → s < p.start → Busy L (task t) p.station s (task_length J N t p.station)

-- the rows' part: rules A, B and C
pub record RowsHeld (J : JobData) (N : NetData) (ρ : Ways) (P : PlanData) : Type 0 where
  pub task_rows : length P.tasks ≡ 128
  pub transfer_rows : length P.transfers ≡ 224
  pub known : (t : ℕ) (p : Placement) → task_row P t ≡ Some p → t < length J.works
  pub machine : (t : ℕ) (p : Placement) → task_row P t ≡ Some p → is_machine N p.station ≡ true
  pub empty : (i : ℕ) → length J.edges ≤ i → starts P i ≡ []
  pub before : (i : ℕ) (e : Edge) (q : Placement) → slice_get J.edges i ≡ Some e → task_row P e.to ≡ Some q → (p : Placement) × (task_row P e.from ≡ Some p)
  pub ways : (i : ℕ) (e : Edge) → slice_get J.edges i ≡ Some e → (hs : List Hop) × (way ρ P e ≡ Some hs) × (length (starts P i) ≡ length hs)

-- what holds of a drawn state
pub record Held (J : JobData) (N : NetData) (ρ : Ways) (S : DrawState) : Type 0 where
  pub ledger : List Entry
  pub held : Ledger S.table ledger
  pub small : S.table.horizon ≤ 2000000000
  pub rows : RowsHeld J N ρ S.plan
  pub tasks : TasksHeld J N ρ S.plan ledger
  pub edges : EdgesHeld J N ρ S.plan ledger
