-- What is wrong with a plan: for each rule, the two numbers by which it is broken, a clause for each way to break it.
use Rattle.std.specs.Prelude.{◌≡◌, ℕ, suc, ◌<◌, ◌≤◌, false, ◌≢◌, List, [], length, Some, None}
use Rattle.std.specs.List.{slice_get}
use Rattle.model.specs.Bookings.{end, Share}
use Rattle.model.specs.Data.{JobData, NetData, is_machine, task_length}
use Rattle.model.specs.Plans.{PlanData, task_row, starts, finish}
use Rattle.model.specs.declared.booking.Booking.{Booking}
use Rattle.model.specs.declared.job.Edge.{Edge}
use Rattle.model.specs.declared.plan.Placement.{Placement}
use Rattle.routes.specs.Legs.{Ways, legs, last}
use Rattle.routes.specs.declared.hop.Hop.{Hop}
use Rattle.marker.specs.declared.verdict.Rule.{Rule}
use Rattle.marker.specs.declared.verdict.Rule.TheVariants.{Rows, Predecessors, Routed, WithinLimit, Departure, Causality, Arrival, Machines, Links}

-- no task and no transfer finishes later
abbrev pub limit : ℕ
limit = 2000000000

module _ (J : JobData) (N : NetData) (ρ : Ways) (P : PlanData) where
  -- A: each filled row names a task or an edge of the job, and each placed task's station is a machine
  pub data RowsFault : ℕ → ℕ → Type 0 where
    no_task : (t : ℕ) (p : Placement) → task_row P t ≡ Some p → length J.works ≤ t → RowsFault 0 t
    no_machine : (t : ℕ) (p : Placement) → task_row P t ≡ Some p → is_machine N p.station ≡ false → RowsFault 0 t
    no_edge : (i : ℕ) → starts P i ≢ [] → length J.edges ≤ i → RowsFault 1 i

  -- B: each predecessor of a placed task is placed
  pub data PredecessorsFault : ℕ → ℕ → Type 0 where
    unplaced : (i : ℕ) (e : Edge) (q : Placement) → slice_get J.edges i ≡ Some e → task_row P e.to ≡ Some q → task_row P e.from ≡ None → PredecessorsFault i 0

  -- C: an edge whose two tasks are placed on different machines has a route, and as many starts as hops; any other edge has no starts
  pub data RoutedFault : ℕ → ℕ → Type 0 where
    no_route : (i : ℕ) (e : Edge) (p q : Placement) → slice_get J.edges i ≡ Some e → task_row P e.from ≡ Some p → task_row P e.to ≡ Some q → p.station ≢ q.station → ρ p.station q.station ≡ None → RoutedFault i 0
    other_count : (i : ℕ) (e : Edge) (p q : Placement) (hs : List Hop) → slice_get J.edges i ≡ Some e → task_row P e.from ≡ Some p → task_row P e.to ≡ Some q → p.station ≢ q.station → ρ p.station q.station ≡ Some hs → length (starts P i) ≢ length hs → RoutedFault i 0
    same_machine : (i : ℕ) (e : Edge) (p q : Placement) → slice_get J.edges i ≡ Some e → task_row P e.from ≡ Some p → task_row P e.to ≡ Some q → p.station ≡ q.station → starts P i ≢ [] → RoutedFault i 0
    no_origin : (i : ℕ) (e : Edge) → slice_get J.edges i ≡ Some e → task_row P e.from ≡ None → starts P i ≢ [] → RoutedFault i 0
    no_goal : (i : ℕ) (e : Edge) → slice_get J.edges i ≡ Some e → task_row P e.to ≡ None → starts P i ≢ [] → RoutedFault i 0

  -- D: each finish is at most the limit
  pub data WithinLimitFault : ℕ → ℕ → Type 0 where
    late_task : (t : ℕ) (p : Placement) → task_row P t ≡ Some p → limit < finish J N t p → WithinLimitFault 0 t
    late_transfer : (i k : ℕ) (b : Booking) → slice_get (legs J N ρ P i) k ≡ Some b → limit < end b → WithinLimitFault 1 i

  -- E: a transfer's first start is not before the finish of the task it comes from
  pub data DepartureFault : ℕ → ℕ → Type 0 where
    too_soon : (i : ℕ) (e : Edge) (p : Placement) (b : Booking) → slice_get J.edges i ≡ Some e → task_row P e.from ≡ Some p → slice_get (legs J N ρ P i) 0 ≡ Some b → b.start < finish J N e.from p → DepartureFault i 0

  -- F: on a later link a transfer starts no earlier than on its first link, and finishes no earlier than on the link before
  pub data CausalityFault : ℕ → ℕ → Type 0 where
    before_first : (i k : ℕ) (a b : Booking) → slice_get (legs J N ρ P i) 0 ≡ Some a → slice_get (legs J N ρ P i) (suc k) ≡ Some b → b.start < a.start → CausalityFault i (suc k)
    overtakes : (i k : ℕ) (a b : Booking) → slice_get (legs J N ρ P i) k ≡ Some a → slice_get (legs J N ρ P i) (suc k) ≡ Some b → end b < end a → CausalityFault i (suc k)

  -- G: a task starts no earlier than the last finish of each incoming transfer, and no earlier than the finish of a predecessor on its own machine
  pub data ArrivalFault : ℕ → ℕ → Type 0 where
    before_transfer : (i : ℕ) (e : Edge) (q : Placement) (b : Booking) → slice_get J.edges i ≡ Some e → task_row P e.to ≡ Some q → last (legs J N ρ P i) ≡ Some b → q.start < end b → ArrivalFault i 0
    before_task : (i : ℕ) (e : Edge) (p q : Placement) → slice_get J.edges i ≡ Some e → task_row P e.from ≡ Some p → task_row P e.to ≡ Some q → p.station ≡ q.station → q.start < finish J N e.from p → ArrivalFault i 0

  -- H: two tasks on one machine share no tick
  pub data MachinesFault : ℕ → ℕ → Type 0 where
    two_tasks : (t u : ℕ) (p q : Placement) → t < u → task_row P t ≡ Some p → task_row P u ≡ Some q → p.station ≡ q.station → Share p.start (task_length J N t p.station) q.start (task_length J N u q.station) → MachinesFault t u

  -- I: two transfers on one link share no tick
  pub data LinksFault : ℕ → ℕ → Type 0 where
    two_transfers : (i j k l : ℕ) (a b : Booking) → i < j → slice_get (legs J N ρ P i) k ≡ Some a → slice_get (legs J N ρ P j) l ≡ Some b → a.resource ≡ b.resource → Share a.start a.length b.start b.length → LinksFault i j

  abbrev pub Fault : Rule → ℕ → ℕ → Type 0
  Fault Rows = RowsFault
  Fault Predecessors = PredecessorsFault
  Fault Routed = RoutedFault
  Fault WithinLimit = WithinLimitFault
  Fault Departure = DepartureFault
  Fault Causality = CausalityFault
  Fault Arrival = ArrivalFault
  Fault Machines = MachinesFault
  Fault Links = LinksFault

  -- no rule is broken
  abbrev pub NoFault : Type 0
  NoFault = (r : Rule) (x y : ℕ) → Fault r x y → ⊥
