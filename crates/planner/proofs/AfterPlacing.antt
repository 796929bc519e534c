-- The state after a task is placed: its rows, the ways of its edges, and the bookings that are new.
use Rattle.std.proofs.Common.{◌≡◌, ℕ, ◌+◌, ◌<◌, ◌≤◌, ◌≢◌, List, [], ◌∷◌, ◌++◌, flat_map, length, get_or, set, None, Some, Ok, Option, Result, sym, refl, ap, subst, ◌∙◌, ⊎_elim, arith}
use Rattle.std.specs.List.{slice_get}
use Rattle.std.specs.Option.{option_map_or}
use Rattle.std.proofs.lemmas.Bool.{cases_eq, cases_lt}
use Rattle.std.proofs.lemmas.List.{get_or-set_same, get_or-set_other, nil_from_length}
use Rattle.std.proofs.lemmas.Option.{slice_get_past}
use Rattle.model.specs.Data.{JobData, NetData, task_length}
use Rattle.model.specs.Plans.{PlanData, task_row, starts, task_booking}
use Rattle.model.specs.declared.job.Edge.{Edge}
use Rattle.model.specs.declared.plan.Placement.{Placement}
use Rattle.model.specs.declared.refusal.Refusal.{Refusal}
use Rattle.routes.specs.Legs.{Ways, way_between, way, legs_along, legs_at, legs}
use Rattle.timetable.specs.Changes.{with_booking}
use Rattle.timetable.specs.Tables.{span}
use Rattle.planner.specs.Bookings.{step_bookings}
use Rattle.planner.specs.Chains.{unless}
use Rattle.planner.specs.Edges.{incoming, way_to}
use Rattle.planner.specs.OrderInWords.{IsPlaced, InOrder}
use Rattle.planner.specs.Outcomes.{DrawState}
use Rattle.planner.specs.Placing.{Brought, bring_all, with_placed, place_refusal, placed}
use Rattle.planner.specs.States.{HasAllRows, Given, Ordered}
use Rattle.planner.specs.Transfers.{ask}
use Rattle.planner.proofs.BroughtRows.{legs_to, Brings, bringing}
use Rattle.planner.proofs.CarriedLegs.{ok_same, and_then_ok, Appended, appended_one, appended_both}
use Rattle.planner.proofs.IncomingEdges.{Among, flat_map_same, incoming_read, incoming_differ}
use Rattle.planner.proofs.ListTests.{some_same, none≢some}
use Rattle.planner.proofs.Ordered.{tested_in_words}
use Rattle.planner.proofs.PlaceAllowed.{Allowed, allowed}

-- in a state that is in order task t may be placed on machine m, and B is what its transfers leave
pub record MayPlace (J : JobData) (N : NetData) (ρ : Ways) (S : DrawState) (t m : ℕ) (B : Brought) : Type 0 where
  pub given : Given J N ρ
  pub all_rows : HasAllRows S.plan
  pub order : InOrder J N ρ S
  pub allowed : Allowed J N ρ S.plan t m
  pub brings : Brings J N ρ S.plan m (incoming J t) S.plan.transfers S.table B

no_way : (ρ : Ways) (a : Option Placement) → way_between ρ a None ≡ Some []
no_way ρ None = refl
no_way ρ (Some p) = refl

-- which way it is depends on the station alone, not on the start
same_station : (ρ : Ways) (a : Option Placement) (m s : ℕ) → way_between ρ a (Some (record { station = m; start = s })) ≡ way_between ρ a (Some (record { station = m; start = 0 }))
same_station ρ None m s = refl
same_station ρ (Some p) m s = refl

module _ (J : JobData) (N : NetData) (ρ : Ways) (S : DrawState) (t m s : ℕ) (B : Brought) (C : MayPlace J N ρ S t m B) where
  abbrev P : PlanData
  P = S.plan

  abbrev rows : List (List ℕ)
  rows = C.brings.rows

  -- the plan then, and the state
  abbrev pub plan_then : PlanData
  plan_then = record { tasks = set S.plan.tasks t (Some (record { station = m; start = s })); transfers = C.brings.rows; steps = S.plan.steps ++ t ∷ [] }

  abbrev pub state_then : DrawState
  state_then = record { count = S.count + 1; plan = plan_then; table = with_booking B.table (span m s (task_length J N t m)) }

  pub is_then : with_placed J N S t m B s ≡ state_then
  is_then = ap (λ Q. with_placed J N S t m (record { plan = Q; table = B.table; ready = B.ready }) s) C.brings.plan

  pub within_rows : t < length S.plan.tasks
  within_rows = omega (arith, C.allowed.known, C.given.job.few_tasks, C.all_rows.task_rows)

  pub row_new : task_row plan_then t ≡ Some (record { station = m; start = s })
  row_new = get_or-set_same P.tasks t (Some (record { station = m; start = s })) None within_rows

  pub row_old : (u : ℕ) → u ≢ t → task_row plan_then u ≡ task_row S.plan u
  row_old u other = get_or-set_other P.tasks t u (Some (record { station = m; start = s })) None other

  -- a task that was placed before is another
  pub old_is_other : (u : ℕ) → IsPlaced S.plan u → u ≢ t
  old_is_other u (p, at) same = none≢some p (sym C.allowed.blank ∙ ap (λ v. task_row P v) (sym same) ∙ at)

  pub placed_still : (u : ℕ) → IsPlaced S.plan u → IsPlaced plan_then u
  placed_still u (p, at) = (p, row_old u (old_is_other u (p, at)) ∙ at)

  -- the rows of starts

  pub starts_old : (i : ℕ) (e : Edge) → slice_get J.edges i ≡ Some e → e.to ≢ t → starts plan_then i ≡ starts S.plan i
  starts_old i e at other = C.brings.kept i (λ d among. let r = incoming_read J t i d among in other (ap (λ x. x.to) (some_same e d (sym at ∙ r.0)) ∙ r.1))

  pub starts_beyond : (i : ℕ) → length J.edges ≤ i → starts plan_then i ≡ starts S.plan i
  starts_beyond i past = C.brings.kept i (λ d among. none≢some d (sym (slice_get_past J.edges i past) ∙ (incoming_read J t i d among).0))

  -- an edge into the task had no starts
  pub no_starts : (i : ℕ) (e : Edge) → slice_get J.edges i ≡ Some e → e.to ≡ t → starts S.plan i ≡ []
  no_starts i e at goal =
      let r = C.order.routed i e at in
      let none : way ρ P e ≡ Some [] = ap (λ x. way_between ρ (task_row P e.from) x) (ap (λ u. task_row P u) goal ∙ C.allowed.blank) ∙ no_way ρ (task_row P e.from) in
      nil_from_length (starts P i) (r.2 ∙ ap length (some_same r.0 [] (sym r.1 ∙ none)))

  -- the ways

  pub way_new : (i : ℕ) (e : Edge) → slice_get J.edges i ≡ Some e → e.to ≡ t → way ρ plan_then e ≡ way_to ρ S.plan m e
  way_new i e at goal =
      let rises = (C.given.job.each_rises i e at).0 in
      let other : e.from ≢ t = λ same. omega (arith, rises, same, goal) in
      ap (λ x. way_between ρ x (task_row plan_then e.to)) (row_old e.from other)
      ∙ ap (λ x. way_between ρ (task_row P e.from) x) (ap (λ u. task_row plan_then u) goal ∙ row_new)
      ∙ same_station ρ (task_row P e.from) m s

  pub way_old : (i : ℕ) (e : Edge) → slice_get J.edges i ≡ Some e → e.to ≢ t → way ρ plan_then e ≡ way ρ S.plan e
  way_old i e at other = ⊎_elim leaving (λ origin. ap (λ x. way_between ρ x (task_row plan_then e.to)) (row_old e.from origin) ∙ ap (λ x. way_between ρ (task_row P e.from) x) (row_old e.to other)) (cases_eq e.from t)
    where
      -- the goal of an edge out of the task was not placed
      none : e.from ≡ t → (o : Option Placement) → task_row P e.to ≡ o → task_row P e.to ≡ None
      none origin None at_goal = at_goal
      none origin (Some q) at_goal = absurd (old_is_other e.from (C.order.predecessor_placed i e at (q, at_goal)) origin)

      leaving : e.from ≡ t → way ρ plan_then e ≡ way ρ S.plan e
      leaving origin =
          let before = none origin (task_row P e.to) refl in
          ap (λ x. way_between ρ (task_row plan_then e.from) x) (row_old e.to other ∙ before) ∙ no_way ρ _ ∙ sym (ap (λ x. way_between ρ (task_row P e.from) x) before ∙ no_way ρ _)

  -- the bookings

  legs_new : (x : ℕ × Edge) → Among x (incoming J t) → legs J N ρ plan_then x.0 ≡ legs_to J N ρ P m rows x
  legs_new x among =
      let r = incoming_read J t x.0 x.1 among in
      ap (λ o. legs_at N ρ plan_then x.0 o) r.0 ∙ ap (λ w. legs_along N x.1.volume w (get_or rows x.0 [])) (way_new x.0 x.1 r.0 r.1)

  legs_old : (u : ℕ) → u ≢ t → (x : ℕ × Edge) → Among x (incoming J u) → legs J N ρ plan_then x.0 ≡ legs J N ρ P x.0
  legs_old u other x among =
      let r = incoming_read J u x.0 x.1 among in
      let goal : x.1.to ≢ t = λ same. other (sym r.1 ∙ same) in
      ap (λ o. legs_at N ρ plan_then x.0 o) r.0
      ∙ ap (λ w. legs_along N x.1.volume w (starts plan_then x.0)) (way_old x.0 x.1 r.0 goal)
      ∙ ap (λ ss. legs_along N x.1.volume (way ρ P x.1) ss) (starts_old x.0 x.1 r.0 goal)
      ∙ sym (ap (λ o. legs_at N ρ P x.0 o) r.0)

  pub step_new : step_bookings J N ρ plan_then t ≡ flat_map (legs_to J N ρ S.plan m C.brings.rows) (incoming J t) ++ span m s (task_length J N t m) ∷ []
  step_new =
      ap (λ bs. bs ++ option_map_or (λ p. task_booking J N t p ∷ []) (task_row plan_then t) []) (flat_map_same (λ (i, e). legs J N ρ plan_then i) (legs_to J N ρ P m rows) (incoming J t) legs_new)
      ∙ ap (λ o. flat_map (legs_to J N ρ P m rows) (incoming J t) ++ option_map_or (λ p. task_booking J N t p ∷ []) o []) row_new

  pub step_old : (u : ℕ) → u ≢ t → step_bookings J N ρ plan_then u ≡ step_bookings J N ρ S.plan u
  step_old u other =
      ap (λ bs. bs ++ option_map_or (λ p. task_booking J N u p ∷ []) (task_row plan_then u) []) (flat_map_same (λ (i, e). legs J N ρ plan_then i) (λ (i, e). legs J N ρ P i) (incoming J u) (legs_old u other))
      ∙ ap (λ o. flat_map (λ (i, e). legs J N ρ P i) (incoming J u) ++ option_map_or (λ p. task_booking J N u p ∷ []) o []) (row_old u other)

  -- the bookings of the step are the newest
  pub appends : Appended S.table state_then.table (step_bookings J N ρ plan_then t)
  appends = subst (λ bs. Appended S.table state_then.table bs) (sym step_new) (appended_both C.brings.appended (appended_one B.table (span m s (task_length J N t m))))

-- a call that goes through has placed the task in the end
pub record Placed (J : JobData) (N : NetData) (ρ : Ways) (S : DrawState) (t m : ℕ) (after : DrawState) : Type 0 where
  pub start : ℕ
  pub brought : Brought
  pub may : MayPlace J N ρ S t m brought
  pub is : state_then J N ρ S t m start brought may ≡ after

unless_ok : {A : Type 0} (o : Option Refusal) (call : Result A Refusal) (a : A) → unless o call ≡ Ok a → (o ≡ None) × (call ≡ Ok a)
unless_ok None call a e = (refl, e)
unless_ok (Some d) call a e = cc e

module _ (J : JobData) (N : NetData) (ρ : Ways) (given : Given J N ρ) (S : DrawState) (t m : ℕ) (ordered : Ordered J N ρ S) where
  may_place : (B : Brought) → place_refusal J N ρ S t m ≡ None → bring_all J N ρ m (incoming J t) (record { plan = S.plan; table = S.table; ready = 0 }) ≡ Ok B → MayPlace J N ρ S t m B
  may_place B free ran = record {
    given = given;
    all_rows = ordered.rows;
    order = (tested_in_words J N ρ S).0 ordered.tested;
    allowed = allowed J N ρ S t m free;
    brings = bringing J N ρ S.plan m (incoming J t) S.plan.transfers S.table 0 B (incoming_differ J t) within ran;
  }
    where
      within : (i : ℕ) (e : Edge) → Among (i, e) (incoming J t) → i < length S.plan.transfers
      within i e among =
          let there = (incoming_read J t i e among).0 in
          let edge : i < length J.edges = ⊎_elim (λ less. less) (λ past. absurd (none≢some e (sym (slice_get_past J.edges i past) ∙ there))) (cases_lt i (length J.edges)) in
          omega (arith, edge, given.job.few_edges, ordered.rows.transfer_rows)

  pub placed_is : (f : ℕ) (after : DrawState) → placed J N ρ S t m ≡ Ok (f, after) → Placed J N ρ S t m after
  unfolding placed
  placed_is f after e =
      let free = unless_ok (place_refusal J N ρ S t m) _ (f, after) e in
      let one = and_then_ok (bring_all J N ρ m (incoming J t) (record { plan = S.plan; table = S.table; ready = 0 })) _ (f, after) free.1 in
      let B = one.0 in
      let two = and_then_ok (ask B.table m B.ready (task_length J N t m)) (λ s. Ok (s + task_length J N t m, with_placed J N S t m B s)) (f, after) one.2 in
      let may = may_place B free.0 one.1 in
      record {
        start = two.0;
        brought = B;
        may = may;
        is = sym (is_then J N ρ S t m two.0 B may) ∙ ap (λ x. x.1) (ok_same (two.0 + task_length J N t m, with_placed J N S t m B two.0) (f, after) two.2);
      }
