-- Placing a task on a machine: why it cannot be, and what is booked for it.
use Rattle.std.specs.Prelude.{ℕ, ◌+◌, ◌-◌, max, not, List, [], ◌∷◌, map, filter, length, find, sum_by, is_none, option_map, Some, Ok, Option, Result, nat_lt}
use Rattle.std.specs.Bool.{then_some}
use Rattle.model.specs.Data.{JobData, NetData, task_count, is_machine, task_length}
use Rattle.model.specs.Plans.{PlanData, with_task, with_starts, with_step}
use Rattle.model.specs.declared.job.Edge.{Edge}
use Rattle.model.specs.declared.refusal.Refusal.{Refusal}
use Rattle.model.specs.declared.refusal.Refusal.TheVariants.{NoSuchTask, NotAMachine, AlreadyPlaced, PredecessorUnplaced, NoRoute, NoRoom}
use Rattle.routes.specs.Hops.{hops_of}
use Rattle.routes.specs.Legs.{Ways}
use Rattle.timetable.specs.Changes.{with_booking}
use Rattle.timetable.specs.Earliest.{least}
use Rattle.timetable.specs.Tables.{Table, span}
use Rattle.planner.specs.Chains.{and_then, first_of, unless}
use Rattle.planner.specs.Edges.{incoming, is_placed, finish_of, way_to}
use Rattle.planner.specs.Outcomes.{DrawState}
use Rattle.planner.specs.Transfers.{ask, Carried, carry}

-- the lowest predecessor of task t that is not placed
abbrev pub unplaced_predecessor : JobData → PlanData → ℕ → Option ℕ
unplaced_predecessor J P t = least (filter (λ u. not (is_placed P u)) (map (λ (i, e). e.from) (incoming J t)))

-- the lowest edge into task t that has no route to machine m
abbrev pub edge_without_route : JobData → Ways → PlanData → ℕ → ℕ → Option ℕ
edge_without_route J ρ P t m = option_map (λ (i, e). i) (find (λ (i, e). is_none (way_to ρ P m e)) (incoming J t))

-- how many bookings task t takes on machine m: one for each hop of its incoming edges, and its own
abbrev pub bookings_needed : JobData → Ways → PlanData → ℕ → ℕ → ℕ
bookings_needed J ρ P t m = sum_by (λ (i, e). length (hops_of (way_to ρ P m e))) (incoming J t) + 1

-- how many more bookings there may be
abbrev pub room : Table → ℕ
room T = T.most - length T.bookings

-- why no question is asked for task t on machine m: the first of these
unfoldable pub place_refusal : JobData → NetData → Ways → DrawState → ℕ → ℕ → Option Refusal
place_refusal J N ρ S t m = first_of (
    then_some (not (nat_lt t (task_count J))) (NoSuchTask t)
    ∷ then_some (not (is_machine N m)) (NotAMachine m)
    ∷ then_some (is_placed S.plan t) (AlreadyPlaced t)
    ∷ option_map PredecessorUnplaced (unplaced_predecessor J S.plan t)
    ∷ option_map NoRoute (edge_without_route J ρ S.plan t m)
    ∷ then_some (nat_lt (room S.table) (bookings_needed J ρ S.plan t m)) (NoRoom (bookings_needed J ρ S.plan t m))
    ∷ [])

-- the plan and the table with some incoming transfers, and the tick from which the task can start
pub record Brought : Type 0 where
  pub plan : PlanData
  pub table : Table
  pub ready : ℕ

abbrev pub with_transfer : ℕ → Brought → Carried → Brought
with_transfer i B c = record { plan = with_starts B.plan i c.starts; table = c.table; ready = max B.ready c.arrival }

-- the transfer of edge e, of number i, to machine m; it departs at the finish of its origin
abbrev pub bring : JobData → NetData → Ways → ℕ → ℕ × Edge → Brought → Result Brought Refusal
bring J N ρ m (i, e) B =
    and_then (carry N e.volume (finish_of J N B.plan e.from) (hops_of (way_to ρ B.plan m e)) B.table) (λ c.
    Ok (with_transfer i B c))

-- the transfers of several edges, one after the other
unfoldable pub bring_all : JobData → NetData → Ways → ℕ → List (ℕ × Edge) → Brought → Result Brought Refusal
bring_all J N ρ m [] B = Ok B
bring_all J N ρ m (e ∷ es) B = and_then (bring J N ρ m e B) (bring_all J N ρ m es)

-- the state with task t on machine m from s on, once its transfers are booked
abbrev pub with_placed : JobData → NetData → DrawState → ℕ → ℕ → Brought → ℕ → DrawState
with_placed J N S t m B s = record {
  count = S.count + 1;
  plan = with_step (with_task B.plan t (Some (record { station = m; start = s }))) t;
  table = with_booking B.table (span m s (task_length J N t m));
}

-- the finish of task t placed on machine m, and the state then, or why it cannot be placed there
unfoldable pub placed : JobData → NetData → Ways → DrawState → ℕ → ℕ → Result (ℕ × DrawState) Refusal
placed J N ρ S t m =
    unless (place_refusal J N ρ S t m) (
    and_then (bring_all J N ρ m (incoming J t) (record { plan = S.plan; table = S.table; ready = 0 })) (λ B.
    and_then (ask B.table m B.ready (task_length J N t m)) (λ s.
    Ok (s + task_length J N t m, with_placed J N S t m B s))))
