-- Placing a task, step by step.
use Rattle.std.proofs.Common.{◌≡◌, ℕ, ◌+◌, ◌<◌, Bool, true, false, not, ◌&&◌, List, [], ◌∷◌, length, is_some, Some, None, Ok, Err, Option, Result, if◌then◌else◌, nat_lt, refl, sym, ap, ◌∙◌, inl, inr, lt-ltb, le-ltb, le-leb, get_or, arith}
use Rattle.std.specs.Bool.{then_some}
use Rattle.std.specs.List.{slice_get}
use Rattle.std.proofs.lemmas.Bool.{cond-true, ltb-true, and_from, and_parts}
use Rattle.std.proofs.lemmas.List.{set-get_or}
use Rattle.std.proofs.lemmas.Option.{get_or_from_slice_get, slice_get_within}
use Rattle.model.specs.Data.{JobData, NetData, job_of, task_count, station_count, machine_at, speed_at, is_machine, task_length}
use Rattle.model.specs.Lengths.{ticks}
use Rattle.model.specs.Plans.{PlanData, plan_of, task_row, starts, with_task, with_starts, with_step, step_fits}
use Rattle.model.specs.Refusals.{or_else}
use Rattle.model.specs.Rows.{row_fits}
use Rattle.model.specs.declared.job.Edge.{Edge}
use Rattle.model.specs.declared.job.Job.{Job}
use Rattle.model.specs.declared.network.Station.TheVariants.{Machine}
use Rattle.model.specs.declared.plan.Placement.{Placement}
use Rattle.model.specs.declared.plan.Plan.{Plan}
use Rattle.model.specs.declared.refusal.Refusal.{Refusal}
use Rattle.model.specs.declared.refusal.Refusal.TheVariants.{NoSuchTask, NotAMachine, AlreadyPlaced}
use Rattle.model.specs.declared.speed.Speed.{Speed}
use Rattle.routes.specs.Legs.{Ways}
use Rattle.routes.proofs.Along.{not_nth}
use Rattle.timetable.specs.Changes.{with_booking}
use Rattle.timetable.specs.Tables.{Table, span}
use Rattle.planner.specs.Booked.{brought_so, start_after, book_on, needs_refusal}
use Rattle.planner.specs.Calls.{left_with}
use Rattle.planner.specs.Chains.{and_then, unless}
use Rattle.planner.specs.Drawing.{without_transfers}
use Rattle.planner.specs.Edges.{incoming}
use Rattle.planner.specs.OrderInWords.{IsStep, InOrder}
use Rattle.planner.specs.Outcomes.{DrawState, outcome}
use Rattle.planner.specs.Placing.{Brought, bring_all, place_refusal, placed, with_placed}
use Rattle.planner.specs.States.{Given, Ordered}
use Rattle.planner.specs.Transfers.{ask}
use Rattle.planner.proofs.Incoming.{emptied}
use Rattle.planner.proofs.IncomingEdges.{Among, incoming_read}
use Rattle.planner.proofs.ListTests.{none≢some}
use Rattle.planner.proofs.Ordered.{tested_in_words}
use Rattle.planner.proofs.StepRoom.{step_fits_in_order}

pub machine_known : (N : NetData) (m : ℕ) (v : Speed) → slice_get N.stations m ≡ Some (Machine v) → m < station_count N
machine_known N m v at = slice_get_within N.stations m (Machine v) at

pub task_known : (J : JobData) (t w : ℕ) → slice_get J.works t ≡ Some w → t < task_count J
task_known J t w at = slice_get_within J.works t w at

pub length_known : (J : JobData) (N : NetData) (t m w : ℕ) (v : Speed) → slice_get J.works t ≡ Some w → slice_get N.stations m ≡ Some (Machine v) → ticks w v ≡ task_length J N t m
length_known J N t m w v work machine =
    ap (λ x. ticks x v) (sym (get_or_from_slice_get J.works t w 0 work))
    ∙ ap (λ o. ticks (get_or J.works t 0) (speed_at o)) (sym machine)

module _ (J : JobData) (N : NetData) (ρ : Ways) (S : DrawState) (t m : ℕ) where
  -- the tests, by what the first three ask
  abbrev tests : Bool → Bool → Option Placement → Option Refusal
  tests known machine row =
      or_else (then_some (not known) (NoSuchTask t))
      (or_else (then_some (not machine) (NotAMachine m))
      (or_else (then_some (is_some row) (AlreadyPlaced t)) (needs_refusal J ρ S.plan S.table t m)))

  tests_are : place_refusal J N ρ S t m ≡ tests (nat_lt t (task_count J)) (is_machine N m) (task_row S.plan t)
  unfolding place_refusal
  tests_are = refl

  -- the state once the task is booked, from its start, the plan and the table then
  abbrev then_state : ℕ × PlanData × Table → ℕ × DrawState
  then_state x = (x.0 + task_length J N t m, record { count = S.count + 1; plan = with_step (with_task x.1 t (Some (record { station = m; start = x.0 }))) t; table = x.2 })

  abbrev last : Brought → Result (ℕ × DrawState) Refusal
  last B = and_then (ask B.table m B.ready (task_length J N t m)) (λ s. Ok (s + task_length J N t m, with_placed J N S t m B s))

  abbrev call : Result (ℕ × DrawState) Refusal
  call = and_then (bring_all J N ρ m (incoming J t) (brought_so S.plan S.table 0)) last

  call_is : placed J N ρ S t m ≡ unless (place_refusal J N ρ S t m) call
  unfolding placed
  call_is = refl

  last_mapped : (r : Result Brought Refusal) → and_then r last ≡ and_then (and_then r (start_after m (task_length J N t m))) (λ x. Ok (then_state x))
  last_mapped (Err e) = refl
  last_mapped (Ok B) = go (ask B.table m B.ready (task_length J N t m))
    where
      go : (o : Result ℕ Refusal) → and_then o (λ s. Ok (s + task_length J N t m, with_placed J N S t m B s)) ≡ and_then (and_then o (λ s. Ok (s, B.plan, with_booking B.table (span m s (task_length J N t m))))) (λ x. Ok (then_state x))
      go (Err e) = refl
      go (Ok s) = refl

  refusing : (e : Refusal) → tests (nat_lt t (task_count J)) (is_machine N m) (task_row S.plan t) ≡ Some e → placed J N ρ S t m ≡ Err e
  refusing e why = call_is ∙ ap (λ o. unless o call) (tests_are ∙ why)

  pub at_task : slice_get J.works t ≡ None → placed J N ρ S t m ≡ Err (NoSuchTask t)
  at_task missing = refusing (NoSuchTask t) (ap (λ b. tests b (is_machine N m) (task_row S.plan t)) (le-ltb _ _ (not_nth J.works t missing)))

  module _ (w : ℕ) (work : slice_get J.works t ≡ Some w) where
    is_known : nat_lt t (task_count J) ≡ true
    is_known = lt-ltb _ _ (task_known J t w work)

    pub at_machine : is_machine N m ≡ false → placed J N ρ S t m ≡ Err (NotAMachine m)
    at_machine none = refusing (NotAMachine m) (ap (λ b. tests b (is_machine N m) (task_row S.plan t)) is_known ∙ ap (λ b. tests true b (task_row S.plan t)) none)

    module _ (v : Speed) (machine : slice_get N.stations m ≡ Some (Machine v)) where
      tests_left : tests (nat_lt t (task_count J)) (is_machine N m) (task_row S.plan t) ≡ tests true true (task_row S.plan t)
      tests_left = ap (λ b. tests b (is_machine N m) (task_row S.plan t)) is_known ∙ ap (λ o. tests true (machine_at o) (task_row S.plan t)) machine

      pub at_row : (p : Placement) → task_row S.plan t ≡ Some p → placed J N ρ S t m ≡ Err (AlreadyPlaced t)
      at_row p there = refusing (AlreadyPlaced t) (tests_left ∙ ap (tests true true) there)

      module _ (blank : task_row S.plan t ≡ None) where
        pub at_needs : (e : Refusal) → needs_refusal J ρ S.plan S.table t m ≡ Some e → placed J N ρ S t m ≡ Err e
        at_needs e why = refusing e (tests_left ∙ ap (tests true true) blank ∙ why)

        module _ (needs : needs_refusal J ρ S.plan S.table t m ≡ None) where
          is_booked : placed J N ρ S t m ≡ and_then (book_on J N ρ S.plan S.table t m (task_length J N t m)) (λ x. Ok (then_state x))
          is_booked =
              call_is
              ∙ ap (λ o. unless o call) (tests_are ∙ tests_left ∙ ap (tests true true) blank ∙ needs)
              ∙ last_mapped (bring_all J N ρ m (incoming J t) (brought_so S.plan S.table 0))

          pub at_start : (e : Refusal) → Err e ≡ book_on J N ρ S.plan S.table t m (ticks w v) → placed J N ρ S t m ≡ Err e
          at_start e why =
              is_booked
              ∙ ap (λ d. and_then (book_on J N ρ S.plan S.table t m d) (λ x. Ok (then_state x))) (sym (length_known J N t m w v work machine))
              ∙ ap (λ r. and_then r (λ x. Ok (then_state x))) (sym why)

          pub at_end : (s : ℕ) (Q : PlanData) (U : Table) → Ok (s, Q, U) ≡ book_on J N ρ S.plan S.table t m (ticks w v)
              → placed J N ρ S t m ≡ Ok (s + ticks w v, record { count = S.count + 1; plan = with_step (with_task Q t (Some (record { station = m; start = s }))) t; table = U })
          at_end s Q U why =
              is_booked
              ∙ ap (λ d. and_then (book_on J N ρ S.plan S.table t m d) (λ x. Ok (then_state x))) (sym (length_known J N t m w v work machine))
              ∙ ap (λ r. and_then r (λ x. Ok (then_state x))) (sym why)
              ∙ ap (λ d. Ok (s + d, record { count = S.count + 1; plan = with_step (with_task Q t (Some (record { station = m; start = s }))) t; table = U })) (sym (length_known J N t m w v work machine))

-- an ordered state

emptied_steps : (es : List (ℕ × Edge)) (P : PlanData) → (emptied P es).steps ≡ P.steps
emptied_steps [] P = refl
emptied_steps (x ∷ es) P = emptied_steps es (with_starts P x.0 [])

pub steps_brought : (J : JobData) (t : ℕ) (P Q : PlanData) → without_transfers J t Q ≡ P → Q.steps ≡ P.steps
steps_brought J t P Q rows = sym (emptied_steps (incoming J t) Q) ∙ ap (λ X. X.steps) rows

emptied_same : (es : List (ℕ × Edge)) (P : PlanData) → ((i : ℕ) (e : Edge) → Among (i, e) es → starts P i ≡ []) → emptied P es ≡ P
emptied_same [] P empty = refl
emptied_same (x ∷ es) P empty =
    let here : with_starts P x.0 [] ≡ P =
    ap (with_starts P x.0) (sym (empty x.0 x.1 (inl refl))) ∙ ap (λ rows. record P { transfers = rows }) (set-get_or P.transfers x.0 [])
    in
    ap (λ Q. emptied Q es) here ∙ emptied_same es P (λ i e among. empty i e (inr among))

module _ (J : JobData) (N : NetData) (ρ : Ways) (given : Given J N ρ) (S : DrawState) (ordered : Ordered J N ρ S) (t : ℕ) (blank : task_row S.plan t ≡ None) where
  words : InOrder J N ρ S
  words = (tested_in_words J N ρ S).0 ordered.tested

  -- an edge into a task that is not placed has no starts
  no_starts : (i : ℕ) (e : Edge) → Among (i, e) (incoming J t) → starts S.plan i ≡ []
  no_starts i e among =
      let at = incoming_read J t i e among in
      go (starts S.plan i) refl at
    where
      unplaced : (e : Edge) → e.to ≡ t → IsStep S.plan e.to → ⊥
      unplaced e into step = let there = words.step_placed e.to step in none≢some there.0 (sym (ap (λ u. task_row S.plan u) into ∙ blank) ∙ there.1)

      go : (ss : List ℕ) → starts S.plan i ≡ ss → (slice_get J.edges i ≡ Some e) × (e.to ≡ t) → ss ≡ []
      go [] is at = refl
      go (s ∷ ss) is at = absurd (unplaced e at.1 (words.goal_step i e at.0 (λ none. let gone : s ∷ ss ≡ [] = sym is ∙ none in cc gone)))

  pub rows_blank : without_transfers J t S.plan ≡ S.plan
  rows_blank = emptied_same (incoming J t) S.plan no_starts

  pub step_has_room : t < task_count J → (Q : PlanData) → Q.steps ≡ S.plan.steps → step_fits Q t ≡ true
  step_has_room known Q same =
      ap (λ ss. nat_lt t 128 && nat_lt (length ss) 128) same ∙ step_fits_in_order J N ρ given S t ordered known (ap is_some blank)

  pub task_fits : t < task_count J → (m s : ℕ) → m < station_count N → row_fits t (record { station = m; start = s }) ≡ true
  task_fits known m s there =
      let few = given.job.few_tasks in
      let stations = given.network.few_stations in
      and_from _ _ (lt-ltb t 128 (omega (arith, known, few))) (le-leb m 15 (omega (arith, there, stations)))

  pub count_small : t < task_count J → S.count < 128
  count_small known =
      let fits = (and_parts (nat_lt t 128) (nat_lt (length S.plan.steps) 128) (step_has_room known S.plan refl)).1 in
      omega (arith, words.counted, ltb-true (length S.plan.steps) 128 fits)

-- what was written, where it fitted
pub chosen : {X : Type 0} (ok fits : Bool) (x y z : X) → z ≡ (if ok then x else y) → ok ≡ fits → fits ≡ true → z ≡ x
chosen ok fits x y z e same there = e ∙ cond-true ok x y (same ∙ there)

pub comes_out : (S : DrawState) (f f' n : ℕ) (X X' : PlanData) (U : Table) → f' ≡ f → X' ≡ X
    → left_with (Ok f') (record { count = n; plan = X'; table = U }) ≡ outcome S (Ok (f, record { count = n; plan = X; table = U }))
comes_out S f f' n X X' U a b =
    ap (λ k. left_with (Ok k) (record { count = n; plan = X'; table = U })) a
    ∙ ap (λ Y. left_with (Ok f) (record { count = n; plan = Y; table = U })) b

pub needs_read : {X : Type 0} (route : X → Ways) {j k : Job} {r s : X} {p q : Plan} (T : Table) (t m : ℕ) → j ≡ k → r ≡ s → p ≡ q
    → needs_refusal (job_of j) (route r) (plan_of p) T t m ≡ needs_refusal (job_of k) (route s) (plan_of q) T t m
needs_read route {j} {k} {r} {s} {p} {q} T t m a b c =
    ap (λ x. needs_refusal (job_of x) (route r) (plan_of p) T t m) a
    ∙ ap (λ x. needs_refusal (job_of k) (route x) (plan_of p) T t m) b
    ∙ ap (λ x. needs_refusal (job_of k) (route s) (plan_of x) T t m) c
