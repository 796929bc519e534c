-- What a new sheet is drawn on.
use Rattle.std.proofs.Common.{◌≡◌, ℕ, Bool, true, false, List, [], ◌∷◌, if◌then◌else◌, Ok, Err, Result, refl, ap, ◌∙◌, length, arith}
use Rattle.std.specs.Result.{OnErr}
use Rattle.std.proofs.lemmas.Bool.{eqb-true}
use Rattle.model.specs.Plans.{PlanData, blank_plan, plan_of}
use Rattle.model.specs.declared.plan.Plan.{Plan}
use Rattle.model.specs.declared.refusal.Refusal.{Refusal}
use Rattle.model.specs.declared.refusal.Refusal.TheVariants.{NotInOrder}
use Rattle.timetable.specs.Tables.{Table}
use Rattle.planner.specs.Calls.{left_with}
use Rattle.planner.specs.Drawing.{new_state, new_sheet}
use Rattle.planner.specs.Order.{is_empty}
use Rattle.planner.specs.Outcomes.{Outcome, refused}
use Rattle.certificate.specs.Sheets.{sheet_of, plan_on}
use Rattle.certificate.specs.declared.sheet.Sheet as Declared
use Rattle.certificate.specs.declared.sheet.Sheet.TheVariants.{Drawing, OnTrial}

nothing_read : {A : Type 0} (xs : List A) → is_empty xs ≡ true → xs ≡ []
nothing_read [] e = refl
nothing_read (x ∷ xs) e = let zero_long = eqb-true (length (x ∷ xs)) 0 e in absurd (omega (arith, zero_long))

-- a sheet that was given counts no step, its plan is blank, and its timetable has no bookings
pub record Opened (count : ℕ) (Q : PlanData) (T : Table) : Type 0 where
  pub counts : count ≡ 0
  pub blank : Q ≡ blank_plan
  pub empty : T.bookings ≡ []

pub opened : (P Q : PlanData) (T : Table) (count : ℕ) → left_with (Ok count) Q ≡ new_sheet P T → Opened count Q T
unfolding new_sheet
opened P Q T count is = go (is_empty T.bookings) refl is
  where
    go : (b : Bool) → is_empty T.bookings ≡ b → left_with (Ok count) Q ≡ (if b then record { answer = Ok 0; left = blank_plan } else refused P NotInOrder) → Opened count Q T
    go true none e = record { counts = cc (ap (λ o. o.answer) e); blank = ap (λ o. o.left) e; empty = nothing_read T.bookings none }
    go false none e = cc (ap (λ o. o.answer) e)

kept_plan : (P Q : PlanData) (T : Table) (e : Refusal) → ◌≡◌ {A = Outcome ℕ PlanData} (left_with (Err e) Q) (new_sheet P T) → Q ≡ P
unfolding new_sheet
kept_plan P Q T e is = go (is_empty T.bookings) is
  where
    go : (b : Bool) → ◌≡◌ {A = Outcome ℕ PlanData} (left_with (Err e) Q) (if b then record { answer = Ok 0; left = blank_plan } else refused P NotInOrder) → Q ≡ P
    go true is = cc (ap (λ o. o.answer) is)
    go false is = ap (λ o. o.left) is

pub opened_state : (count : ℕ) (Q : PlanData) (T : Table) → Opened count Q T → record { count = count; plan = Q; table = T } ≡ new_state T
opened_state count Q T o = ap (λ n. record { count = n; plan = Q; table = T }) o.counts ∙ ap (λ P. record { count = 0; plan = P; table = T }) o.blank

-- where no sheet was given, nothing has changed
pub unchanged : {A E C : Type 0} (r : Result A E) (P Q : PlanData) (T : Table) (asked : C) (e : Refusal) → ◌≡◌ {A = Outcome ℕ PlanData} (left_with (Err e) Q) (new_sheet P T) → OnErr r ((Q ≡ P) × (T ≡ T) × (asked ≡ asked))
unchanged (Ok x) P Q T asked e is = tt
unchanged (Err x) P Q T asked e is = (kept_plan P Q T e is, refl, refl)

pub plan_of_sheet : (sheet : Declared.Sheet) (plan : Plan) (T : Table) → plan_on (sheet_of sheet plan T) ≡ plan_of plan
plan_of_sheet (Drawing d) plan T = refl
plan_of_sheet (OnTrial d) plan T = refl
