-- Placing a task leaves the state in order.
use Rattle.std.proofs.Common.{◌≡◌, ℕ, zero, suc, ◌<◌, true, ◌≢◌, ◌⊎◌, List, [], ◌∷◌, ◌++◌, length, Some, sym, refl, ap, subst, ◌∙◌, inl, inr, ⊎_elim, arith}
use Rattle.std.specs.List.{slice_get}
use Rattle.std.proofs.lemmas.Bool.{cases_eq, cases_lt}
use Rattle.std.proofs.lemmas.List.{flat_map_more, length_push, length-set}
use Rattle.model.specs.Data.{JobData, NetData, task_count, is_machine}
use Rattle.model.specs.Plans.{PlanData, task_row, starts}
use Rattle.model.specs.declared.job.Edge.{Edge}
use Rattle.model.specs.declared.plan.Placement.{Placement}
use Rattle.routes.specs.Hops.{hops_of}
use Rattle.routes.specs.Legs.{Ways}
use Rattle.planner.specs.Bookings.{step_bookings, plan_bookings}
use Rattle.planner.specs.OrderInWords.{IsPlaced, IsStep, IsRouted, InOrder}
use Rattle.planner.specs.Outcomes.{DrawState}
use Rattle.planner.specs.Placing.{Brought}
use Rattle.planner.specs.States.{Ordered}
use Rattle.planner.specs.UndoLaws.{PlacingKeepsOrder}
use Rattle.planner.proofs.AfterPlacing.{MayPlace, plan_then, state_then, row_new, row_old, old_is_other, placed_still, starts_old, starts_beyond, way_new, way_old, step_old, appends, placed_is}
use Rattle.planner.proofs.IncomingEdges.{Among, flat_map_same, incoming_pass}
use Rattle.planner.proofs.ListTests.{some_same, none≢some}
use Rattle.planner.proofs.Ordered.{tested_in_words}

-- lists with one more element

pub push_new : {X : Type 0} (xs : List X) (y : X) → slice_get (xs ++ y ∷ []) (length xs) ≡ Some y
push_new [] y = refl
push_new (x ∷ xs) y = push_new xs y

push_old : {X : Type 0} (xs : List X) (y x : X) (k : ℕ) → slice_get xs k ≡ Some x → slice_get (xs ++ y ∷ []) k ≡ Some x
push_old [] y x k at = absurd (none≢some x at)
push_old (z ∷ xs) y x zero at = at
push_old (z ∷ xs) y x (suc k) at = push_old xs y x k at

push_cases : {X : Type 0} (xs : List X) (y x : X) (k : ℕ) → slice_get (xs ++ y ∷ []) k ≡ Some x → (slice_get xs k ≡ Some x) ⊎ ((k ≡ length xs) × (y ≡ x))
push_cases [] y x zero at = inr (refl, some_same y x at)
push_cases [] y x (suc k) at = absurd (none≢some x at)
push_cases (z ∷ xs) y x zero at = inl at
push_cases (z ∷ xs) y x (suc k) at = ⊎_elim (λ old. inl old) (λ new. inr (ap suc new.0, new.1)) (push_cases xs y x k at)

among_place : {X : Type 0} (xs : List X) (x : X) → Among x xs → (k : ℕ) × (slice_get xs k ≡ Some x)
among_place [] x at = absurd at
among_place (y ∷ xs) x at = ⊎_elim (λ same. (0, ap Some same)) (λ later. let r = among_place xs x later in (suc r.0, r.1)) at

module _ (J : JobData) (N : NetData) (ρ : Ways) (S : DrawState) (t m s : ℕ) (B : Brought) (C : MayPlace J N ρ S t m B) where
  abbrev P : PlanData
  P = S.plan

  abbrev Q : PlanData
  Q = plan_then J N ρ S t m s B C

  abbrev U : DrawState
  U = state_then J N ρ S t m s B C

  -- steps and placed tasks

  step_before : (u : ℕ) → IsStep P u → IsStep Q u
  step_before u (k, at) = (k, push_old P.steps t u k at)

  last_is_step : (u : ℕ) → u ≡ t → IsStep Q u
  last_is_step u same = (length P.steps, push_new P.steps t ∙ ap Some (sym same))

  no_step_yet : IsStep P t → ⊥
  no_step_yet step = old_is_other J N ρ S t m s B C t (C.order.step_placed t step) refl

  new_placed : (u : ℕ) → u ≡ t → IsPlaced Q u
  new_placed u same = (record { station = m; start = s }, ap (λ v. task_row Q v) same ∙ row_new J N ρ S t m s B C)

  still : (u : ℕ) → IsPlaced P u → IsPlaced Q u
  still = placed_still J N ρ S t m s B C

  was_placed : (u : ℕ) → u ≢ t → IsPlaced Q u → IsPlaced P u
  was_placed u other (p, at) = (p, sym (row_old J N ρ S t m s B C u other) ∙ at)

  step_placed : (u : ℕ) → IsStep Q u → IsPlaced Q u
  step_placed u (k, at) = ⊎_elim (λ old. still u (C.order.step_placed u (k, old))) (λ new. new_placed u (sym new.1)) (push_cases P.steps t u k at)

  step_once : (j k u : ℕ) → slice_get Q.steps j ≡ Some u → slice_get Q.steps k ≡ Some u → j ≡ k
  step_once j k u at_j at_k = ⊎_elim
      (λ x. ⊎_elim (λ y. C.order.step_once j k u x y) (λ y. absurd (no_step_yet (j, x ∙ ap Some (sym y.1)))) (push_cases P.steps t u k at_k))
      (λ x. ⊎_elim (λ y. absurd (no_step_yet (k, y ∙ ap Some (sym x.1)))) (λ y. x.0 ∙ sym y.0) (push_cases P.steps t u k at_k))
      (push_cases P.steps t u j at_j)

  placed_step : (u : ℕ) → IsPlaced Q u → IsStep Q u
  placed_step u there = ⊎_elim (λ same. last_is_step u same) (λ other. step_before u (C.order.placed_step u (was_placed u other there))) (cases_eq u t)

  goal_step : (i : ℕ) (e : Edge) → slice_get J.edges i ≡ Some e → starts Q i ≢ [] → IsStep Q e.to
  goal_step i e at some = ⊎_elim
      (λ goal. last_is_step e.to goal)
      (λ other. step_before e.to (C.order.goal_step i e at (λ none. some (starts_old J N ρ S t m s B C i e at other ∙ none))))
      (cases_eq e.to t)

  -- rules A, B and C

  task_known : (u : ℕ) → IsPlaced Q u → u < task_count J
  task_known u there = ⊎_elim (λ same. subst (λ v. v < task_count J) (sym same) C.allowed.known) (λ other. C.order.task_known u (was_placed u other there)) (cases_eq u t)

  edge_known : (i : ℕ) → starts Q i ≢ [] → i < length J.edges
  edge_known i some = ⊎_elim (λ less. less) (λ past. C.order.edge_known i (λ none. some (starts_beyond J N ρ S t m s B C i past ∙ none))) (cases_lt i (length J.edges))

  on_machine : (u : ℕ) (p : Placement) → task_row Q u ≡ Some p → is_machine N p.station ≡ true
  on_machine u p at = ⊎_elim
      (λ same. (
      let is = some_same (record { station = m; start = s }) p (sym (row_new J N ρ S t m s B C) ∙ ap (λ v. task_row Q v) (sym same) ∙ at) in
      subst (λ q. is_machine N q.station ≡ true) is C.allowed.machine))
      (λ other. C.order.on_machine u p (sym (row_old J N ρ S t m s B C u other) ∙ at))
      (cases_eq u t)

  predecessor_placed : (i : ℕ) (e : Edge) → slice_get J.edges i ≡ Some e → IsPlaced Q e.to → IsPlaced Q e.from
  predecessor_placed i e at there = ⊎_elim
      (λ goal. still e.from (C.allowed.placed i e at goal))
      (λ other. still e.from (C.order.predecessor_placed i e at (was_placed e.to other there)))
      (cases_eq e.to t)

  routed : (i : ℕ) (e : Edge) → slice_get J.edges i ≡ Some e → IsRouted ρ Q i e
  routed i e at = ⊎_elim
      (λ goal. (
      let r = C.allowed.routed i e at goal in
      (r.0, way_new J N ρ S t m s B C i e at goal ∙ r.1, C.brings.counted i e (incoming_pass J t i e at goal) ∙ ap (λ w. length (hops_of w)) r.1)))
      (λ other. (
      let r = C.order.routed i e at in
      (r.0, way_old J N ρ S t m s B C i e at other ∙ r.1, ap length (starts_old J N ρ S t m s B C i e at other) ∙ r.2)))
      (cases_eq e.to t)

  booked : U.table.bookings ≡ plan_bookings J N ρ Q
  booked =
      let same = flat_map_same (step_bookings J N ρ Q) (step_bookings J N ρ P) P.steps (λ u among. step_old J N ρ S t m s B C u (old_is_other J N ρ S t m s B C u (C.order.step_placed u (among_place P.steps u among)))) in
      (appends J N ρ S t m s B C).bookings
      ∙ ap (λ bs. bs ++ step_bookings J N ρ Q t) (C.order.booked ∙ sym same)
      ∙ flat_map_more (step_bookings J N ρ Q) [] P.steps t

  pub in_order_then : InOrder J N ρ U
  in_order_then = record {
    counted = let before = C.order.counted in omega (arith, before, length_push P.steps t);
    step_placed = step_placed;
    step_once = step_once;
    placed_step = placed_step;
    goal_step = goal_step;
    task_known = task_known;
    edge_known = edge_known;
    on_machine = on_machine;
    predecessor_placed = predecessor_placed;
    routed = routed;
    booked = booked;
  }

  pub ordered_then : Ordered J N ρ (state_then J N ρ S t m s B C)
  ordered_then = record {
    rows = record { task_rows = length-set P.tasks t _ ∙ C.all_rows.task_rows; transfer_rows = C.brings.long ∙ C.all_rows.transfer_rows };
    tested = (tested_in_words J N ρ U).1 in_order_then;
  }

pub placing_keeps_order : PlacingKeepsOrder
placing_keeps_order J N ρ given S after t m f ordered e =
    let done = placed_is J N ρ given S t m ordered f after e in
    subst (λ V. Ordered J N ρ V) done.is (ordered_then J N ρ S t m done.start done.brought done.may)
