-- The bookings of a step are counted, and the state without the last step is put together.
use Rattle.std.proofs.Common.{◌≡◌, ℕ, ◌+◌, ◌-◌, ◌*◌, ◌<◌, ◌≤◌, Bool, true, false, List, [], ◌∷◌, ◌++◌, length, set, Some, None, Ok, Option, nat_lt, ◌==◌, if◌then◌else◌, sym, ap, ◌∙◌, ⊎_elim, length-append, arith}
use Rattle.std.specs.List.{flat_map, sum_by, slice_get}
use Rattle.std.specs.Option.{option_map_or}
use Rattle.std.proofs.lemmas.Bool.{cases_lt, lt-ltb}
use Rattle.std.proofs.lemmas.List.{set_past}
use Rattle.model.specs.Data.{JobData, NetData}
use Rattle.model.specs.Plans.{PlanData, task_row, starts, task_booking, with_task, without_last_step}
use Rattle.model.specs.declared.job.Edge.{Edge}
use Rattle.model.specs.declared.plan.Placement.{Placement}
use Rattle.routes.specs.Hops.{hops_of}
use Rattle.routes.specs.Laws.{RouteLaws}
use Rattle.routes.specs.Legs.{Ways, way, legs, legs_at, legs_along, legs_on}
use Rattle.routes.specs.declared.hop.Hop.{Hop}
use Rattle.timetable.specs.Tables.{Table}
use Rattle.planner.specs.Booked.{first_bookings}
use Rattle.planner.specs.Bookings.{step_bookings}
use Rattle.planner.specs.Drawing.{without_transfers, without_step, undone}
use Rattle.planner.specs.Edges.{incoming}
use Rattle.planner.specs.Outcomes.{DrawState, outcome}
use Rattle.planner.proofs.Needed.{few_between, sum_few}

-- an edge has no more legs than its way has hops

few_on : (N : NetData) (v : ℕ) (hops : List Hop) (ss : List ℕ) → length (legs_on N v hops ss) ≤ length hops
few_on N v [] ss = omega arith
few_on N v (h ∷ hops) [] = omega arith
few_on N v (h ∷ hops) (s ∷ ss) = let rest = few_on N v hops ss in omega (arith, rest)

few_along : (N : NetData) (v : ℕ) (o : Option (List Hop)) (ss : List ℕ) → length (legs_along N v o ss) ≤ length (hops_of o)
few_along N v None ss = omega arith
few_along N v (Some hops) ss = few_on N v hops ss

few_at : (N : NetData) (ρ : Ways) → RouteLaws N ρ → (P : PlanData) (i : ℕ) (o : Option Edge) → length (legs_at N ρ P i o) ≤ 15
few_at N ρ laws P i None = omega arith
few_at N ρ laws P i (Some e) = omega (arith, few_along N e.volume (way ρ P e) (starts P i), few_between N ρ laws (task_row P e.from) (task_row P e.to))

pub few_legs : (J : JobData) (N : NetData) (ρ : Ways) → RouteLaws N ρ → (P : PlanData) (t : ℕ) → sum_by (λ (x : ℕ × Edge). length (legs J N ρ P x.0)) (incoming J t) ≤ length J.edges * 15
few_legs J N ρ laws P t = sum_few (λ x. length (legs J N ρ P x.0)) (λ x. x.1.to == t) (λ x. few_at N ρ laws P x.0 (slice_get J.edges x.0)) 0 J.edges

-- a step's bookings are the legs into its task, and its own

pub step_parts : (J : JobData) (N : NetData) (ρ : Ways) (P : PlanData) (t : ℕ) → length (step_bookings J N ρ P t) ≡ length (flat_map (λ (i, e). legs J N ρ P i) (incoming J t)) + option_map_or (λ p. 1) (task_row P t) 0
step_parts J N ρ P t = go (task_row P t)
  where
    go : (row : Option Placement) → length (flat_map (λ (i, e). legs J N ρ P i) (incoming J t) ++ option_map_or (λ p. task_booking J N t p ∷ []) row []) ≡ length (flat_map (λ (i, e). legs J N ρ P i) (incoming J t)) + option_map_or (λ p. 1) row 0
    go None = length-append _ _
    go (Some p) = length-append _ _

-- a task's row is cleared, or there is none

pub row_cleared : (P Q : PlanData) (t : ℕ) (b : Bool) → b ≡ nat_lt t 128 → Q ≡ (if b then with_task P t None else P) → length P.tasks ≡ 128 → Q ≡ with_task P t None
row_cleared P Q t true fits is long = is
row_cleared P Q t false fits is long =
    ⊎_elim
    (λ (l : t < 128). let e : false ≡ true = fits ∙ lt-ltb t 128 l in cc e)
    (λ past. let e : set P.tasks t None ≡ P.tasks = set_past P.tasks t None (omega arith) in is ∙ sym (ap (λ rows. record P { tasks = rows }) e))
    (cases_lt t 128)

-- what is left is the state without the step

pub step_undone : (J : JobData) (N : NetData) (ρ : Ways) (S : DrawState) (t n : ℕ) (P : PlanData) (T : Table) (o : Option ℕ) → n ≡ S.count - 1 → P ≡ without_last_step (with_task (without_transfers J t S.plan) t None) → T ≡ first_bookings (length S.table.bookings - length (step_bookings J N ρ S.plan t)) S.table → o ≡ Some t → record { answer = Ok t; left = record { count = n; plan = P; table = T } } ≡ outcome S (undone J N ρ S o)
unfolding without_step
step_undone J N ρ S t n P T o count plan table is =
    let left : record { count = n; plan = P; table = T } ≡ without_step J N ρ S t = cc in
    ap (λ (U : DrawState). outcome S (Ok (t, U))) left ∙ sym (ap (λ p. outcome S (undone J N ρ S p)) is)
