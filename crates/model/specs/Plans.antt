-- A plan as lists, with no unused places; reading and writing its rows and steps.
use Rattle.std.specs.Prelude.{ℕ, ◌+◌, ◌-◌, max, Bool, ◌&&◌, List, [], ◌∷◌, ◌++◌, map, length, take, replicate, Some, None, Option, Ok, Err, Result, if◌then◌else◌, nat_lt, slice_index_or, slice_set}
use Rattle.std.specs.List.{slice_get}
use Rattle.model.specs.Data.{JobData, NetData, task_length}
use Rattle.model.specs.declared.booking.Booking.{Booking}
use Rattle.model.specs.declared.plan.Placement.{Placement}
use Rattle.model.specs.declared.plan.Plan.{Plan}
use Rattle.model.specs.declared.plan.TransferRow.{TransferRow}
use Rattle.model.specs.declared.plan.error.PlanError.{PlanError}
use Rattle.model.specs.declared.plan.error.PlanError.TheVariants.{NoSuchRow, Full}

-- the row of each task, the starts of each edge's transfer, and the tasks in the order placed
pub record PlanData : Type 0 where
  pub tasks : List (Option Placement)
  pub transfers : List (List ℕ)
  pub steps : List ℕ

abbrev pub starts_of : TransferRow → List ℕ
starts_of r = take r.count r.starts

abbrev pub plan_of : Plan → PlanData
plan_of p = record { tasks = p.tasks; transfers = map starts_of p.transfers; steps = take p.step_count p.steps }

abbrev pub blank_plan : PlanData
blank_plan = record { tasks = replicate 128 None; transfers = replicate 224 []; steps = [] }

-- reading: past the tables a task is not placed, and a transfer has no starts

abbrev pub task_row : PlanData → ℕ → Option Placement
task_row P t = slice_index_or P.tasks t None

abbrev pub starts : PlanData → ℕ → List ℕ
starts P e = slice_index_or P.transfers e []

abbrev pub last_step : PlanData → Option ℕ
last_step P = slice_get P.steps (length P.steps - 1)

-- writing

abbrev pub with_task : PlanData → ℕ → Option Placement → PlanData
with_task P t row = record { tasks = slice_set P.tasks t row; transfers = P.transfers; steps = P.steps }

abbrev pub with_starts : PlanData → ℕ → List ℕ → PlanData
with_starts P e ss = record { tasks = P.tasks; transfers = slice_set P.transfers e ss; steps = P.steps }

abbrev pub with_step : PlanData → ℕ → PlanData
with_step P t = record { tasks = P.tasks; transfers = P.transfers; steps = P.steps ++ t ∷ [] }

abbrev pub without_last_step : PlanData → PlanData
without_last_step P = record { tasks = P.tasks; transfers = P.transfers; steps = take (length P.steps - 1) P.steps }

-- a step can be added: it is of a row, and there is room for one more
abbrev pub step_fits : PlanData → ℕ → Bool
step_fits P t = nat_lt t 128 && nat_lt (length P.steps) 128

abbrev pub step_answer : PlanData → ℕ → Result (Unit {0}) PlanError
step_answer P t = if nat_lt t 128 then (if nat_lt (length P.steps) 128 then Ok tt else Err Full) else Err NoSuchRow

-- what adding a start to the starts of a row answers
abbrev pub start_answer : List ℕ → Result (Unit {0}) PlanError
start_answer ss = if nat_lt (length ss) 15 then Ok tt else Err Full

-- measures

-- the booking of task t where it is placed
abbrev pub task_booking : JobData → NetData → ℕ → Placement → Booking
task_booking J N t p = record { resource = p.station; start = p.start; length = task_length J N t p.station }

abbrev pub finish : JobData → NetData → ℕ → Placement → ℕ
finish J N t p = p.start + task_length J N t p.station

abbrev pub count_placed : List (Option Placement) → ℕ
count_placed [] = 0
count_placed (None ∷ rs) = count_placed rs
count_placed (Some p ∷ rs) = 1 + count_placed rs

-- how many tasks are placed
abbrev pub placed_count : PlanData → ℕ
placed_count P = count_placed P.tasks

abbrev pub latest_finish : JobData → NetData → ℕ → List (Option Placement) → ℕ
latest_finish J N t [] = 0
latest_finish J N t (None ∷ rs) = latest_finish J N (t + 1) rs
latest_finish J N t (Some p ∷ rs) = max (finish J N t p) (latest_finish J N (t + 1) rs)

-- the length of a plan: the greatest finish of a placed task, or 0
abbrev pub plan_length : JobData → NetData → PlanData → ℕ
plan_length J N P = latest_finish J N 0 P.tasks
