-- What a call gives and what it leaves.
use Rattle.std.specs.Prelude.{ℕ, Ok, Err, Result}
use Rattle.model.specs.Plans.{PlanData}
use Rattle.model.specs.declared.refusal.Refusal.{Refusal}
use Rattle.timetable.specs.Tables.{Table}

-- the state of drawing: how many steps the sheet counts, the plan, and the timetable that it is booked in
pub record DrawState : Type 0 where
  pub count : ℕ
  pub plan : PlanData
  pub table : Table

-- the answer of a call, and the state that it leaves
pub record Outcome (A S : Type 0) : Type 0 where
  pub answer : Result A Refusal
  pub left : S

-- a refusal, which leaves the state as it was
abbrev pub refused : {A S : Type 0} → S → Refusal → Outcome A S
refused S e = record { answer = Err e; left = S }

-- how a call from a state comes out, given its answer with the state after it, or its refusal
abbrev pub outcome : {A S : Type 0} → S → Result (A × S) Refusal → Outcome A S
outcome S (Ok (a, after)) = record { answer = Ok a; left = after }
outcome S (Err e) = refused S e
