-- What is printed of a candidate's answer, and the plan that it makes, line by line.
use Rattle.std.specs.Prelude.{ℕ, if◌then◌else◌, List, [], take, Some, None, Option, nat_lt}
use Rattle.model.specs.Data.{JobData, NetData}
use Rattle.model.specs.Plans.{PlanData, blank_plan, with_task, with_starts}
use Rattle.model.specs.Rows.{row_fits}
use Rattle.model.specs.declared.plan.Placement.{Placement}
use Rattle.routes.specs.Legs.{Ways}
use Rattle.marker.specs.Verdicts.{verdict}
use Rattle.script.specs.Data.{LineData, answer, row, starts, mark}
use Rattle.session.specs.Printing.{verdict_line}

-- a task's row is filled; a row or a station past the tables changes nothing
abbrev pub filled : PlanData → ℕ → Placement → PlanData
filled P t placement = if row_fits t placement then with_task P t (Some placement) else P

-- a transfer's row is filled, with 15 starts at most
abbrev pub begun : PlanData → ℕ → List ℕ → PlanData
begun P e ss = if nat_lt e 224 then with_starts P e (take 15 ss) else P

-- the plan after a line
abbrev pub plan_after : PlanData → LineData → PlanData
plan_after P answer = blank_plan
plan_after P (row t station start) = filled P t (record { station = station; start = start })
plan_after P (starts e ss) = begun P e ss
plan_after P _ = P

module _ (J : JobData) (N : NetData) (ρ : Ways) where
  -- what a line prints; none where it does not belong to an answer
  abbrev pub text_of : PlanData → LineData → Option (List ℕ)
  text_of P answer = Some []
  text_of P (row t station start) = Some []
  text_of P (starts e ss) = Some []
  text_of P mark = Some (verdict_line J N P (verdict J N ρ P))
  text_of P _ = None
