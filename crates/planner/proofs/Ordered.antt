-- The test that each call makes passes exactly if sheet, plan and timetable belong together.
use Rattle.std.proofs.Common.{◌≡◌, ℕ, zero, suc, Bool, true, false, not, ◌||◌, ◌≢◌, List, [], ◌∷◌, drop, length, get_or, is_some, is_none, Some, None, Option, ◌==◌, refl, sym, ap, subst, ◌∙◌, ⊎_elim, arith}
use Rattle.std.specs.List.{slice_get, list_all, enumerate_from}
use Rattle.std.specs.Option.{option_map_or}
use Rattle.std.proofs.lemmas.Bool.{and_parts, and_from, cases_Bool, eqb-true, eq-eqb}
use Rattle.std.proofs.lemmas.Option.{get_or_from_slice_get}
use Rattle.model.specs.Data.{JobData, NetData, task_count, is_machine}
use Rattle.model.specs.Plans.{PlanData, task_row, starts}
use Rattle.model.specs.declared.job.Edge.{Edge}
use Rattle.model.specs.declared.plan.Placement.{Placement}
use Rattle.routes.specs.Legs.{Ways, way}
use Rattle.routes.specs.declared.hop.Hop.{Hop}
use Rattle.planner.specs.Bookings.{plan_bookings}
use Rattle.planner.specs.Edges.{is_placed}
use Rattle.planner.specs.Order.{is_empty, keeps_rows, keeps_predecessors, start_for_each, keeps_routes, is_among, all_differ, steps_are_placed, goals_are_steps, are_same, in_order}
use Rattle.planner.specs.OrderInWords.{IsPlaced, IsRouted, InOrder, TestedInWords}
use Rattle.planner.specs.Outcomes.{DrawState}
use Rattle.planner.proofs.ListTests.{none≢some, all_read, all_pass, places_read, places_pass, past_read, past_pass, among_read, among_pass, differ_read, differ_pass, sames_read, sames_themselves}

-- rows that are filled

pub placed_read : (P : PlanData) (t : ℕ) → is_placed P t ≡ true → IsPlaced P t
placed_read P t e = go (task_row P t) refl e
  where
    go : (o : Option Placement) → task_row P t ≡ o → is_some o ≡ true → IsPlaced P t
    go (Some p) at some = (p, at)
    go None at some = cc some

pub placed_pass : (P : PlanData) (t : ℕ) → IsPlaced P t → is_placed P t ≡ true
placed_pass P t (p, at) = ap is_some at

row_read : {X : Type 0} (rows : List (Option X)) (t : ℕ) (x : X) → get_or rows t None ≡ Some x → slice_get rows t ≡ Some (Some x)
row_read [] t x at = absurd (none≢some x at)
row_read (r ∷ rows) zero x at = ap Some at
row_read (r ∷ rows) (suc t) x at = row_read rows t x at

starts_read : (rows : List (List ℕ)) (i : ℕ) → get_or rows i [] ≢ [] → slice_get rows i ≡ Some (get_or rows i [])
starts_read [] i some = absurd (some refl)
starts_read (r ∷ rows) zero some = refl
starts_read (r ∷ rows) (suc i) some = starts_read rows i some

pub empty_read : (ss : List ℕ) → is_empty ss ≡ true → ss ≡ []
empty_read [] e = refl
empty_read (s ∷ ss) e = let zero_long = eqb-true (length (s ∷ ss)) 0 e in absurd (omega (arith, zero_long))

pub filled_read : (ss : List ℕ) → ss ≢ [] → is_empty ss ≡ false
filled_read [] some = absurd (some refl)
filled_read (s ∷ ss) some = ⊎_elim (λ none. absurd (some (empty_read (s ∷ ss) none))) (λ filled. filled) (cases_Bool (is_empty (s ∷ ss)))

pub filled_pass : (ss : List ℕ) → is_empty ss ≡ false → ss ≢ []
filled_pass [] e some = cc e
filled_pass (s ∷ ss) e some = cc some

implied : (a b : Bool) → (not a || b) ≡ true → a ≡ true → b ≡ true
implied true b e at = e
implied false b e at = cc at

implies : (a b : Bool) → (a ≡ true → b ≡ true) → (not a || b) ≡ true
implies true b f = f refl
implies false b f = refl

unless_read : (a b : Bool) → (a || b) ≡ true → a ≡ false → b ≡ true
unless_read true b e no_a = cc no_a
unless_read false b e no_a = e

unless_pass : (a b : Bool) → (a ≡ false → b ≡ true) → (a || b) ≡ true
unless_pass true b f = refl
unless_pass false b f = f refl

module _ (J : JobData) (N : NetData) (ρ : Ways) (P : PlanData) where
  machine_pass : (row : Option Placement) → ((p : Placement) → row ≡ Some p → is_machine N p.station ≡ true) → option_map_or (λ q. is_machine N q.station) row true ≡ true
  machine_pass None each = refl
  machine_pass (Some p) each = each p refl

  routed_read : (i : ℕ) (e : Edge) → start_for_each (way ρ P e) (starts P i) ≡ true → IsRouted ρ P i e
  routed_read i e = go (way ρ P e) refl
    where
      go : (o : Option (List Hop)) → way ρ P e ≡ o → start_for_each o (starts P i) ≡ true → IsRouted ρ P i e
      go (Some hops) at same = (hops, at, eqb-true _ _ same)
      go None at same = cc same

  routed_pass : (i : ℕ) (e : Edge) → IsRouted ρ P i e → start_for_each (way ρ P e) (starts P i) ≡ true
  routed_pass i e (hops, at, same) = ap (λ o. start_for_each o (starts P i)) at ∙ eq-eqb _ _ same

  row_at : (t : ℕ) (row : Option Placement) → slice_get P.tasks t ≡ Some row → task_row P t ≡ row
  row_at t row at = get_or_from_slice_get P.tasks t row None at

  starts_at : (i : ℕ) (ss : List ℕ) → slice_get P.transfers i ≡ Some ss → starts P i ≡ ss
  starts_at i ss at = get_or_from_slice_get P.transfers i ss [] at

  none_pass : (row : Option Placement) → is_none row ≡ false → (p : Placement) × (row ≡ Some p)
  none_pass None e = cc e
  none_pass (Some p) e = (p, refl)

  abbrev step_test : ℕ × Option Placement → Bool
  step_test (t, row) = is_none row || is_among P.steps t

  abbrev goal_test : ℕ × Edge → Bool
  goal_test (i, e) = is_empty (starts P i) || is_among P.steps e.to

  abbrev route_test : ℕ × Edge → Bool
  route_test (i, e) = start_for_each (way ρ P e) (starts P i)

  abbrev predecessor_test : Edge → Bool
  predecessor_test e = not (is_placed P e.to) || is_placed P e.from

  abbrev machine_test : Option Placement → Bool
  machine_test row = option_map_or (λ p. is_machine N p.station) row true

module _ (J : JobData) (N : NetData) (ρ : Ways) (S : DrawState) where
  abbrev P : PlanData
  P = S.plan

  words_from_test : in_order J N ρ S ≡ true → InOrder J N ρ S
  unfolding in_order
  words_from_test e =
      let g6 = and_parts _ (are_same S.table.bookings (plan_bookings J N ρ P)) e in
      let g5 = and_parts _ (keeps_routes J ρ P) g6.0 in
      let g4 = and_parts _ (keeps_predecessors J P) g5.0 in
      let g3 = and_parts _ (keeps_rows J N P) g4.0 in
      let g2 = and_parts _ (goals_are_steps J P) g3.0 in
      let g1 = and_parts (S.count == length P.steps) (steps_are_placed P) g2.0 in
      let s2 = and_parts _ (list_all (step_test J N ρ P) (enumerate_from 0 P.tasks)) g1.1 in
      let s1 = and_parts (list_all (is_placed P) P.steps) (all_differ P.steps) s2.0 in
      let r2 = and_parts _ (list_all (machine_test J N ρ P) P.tasks) g3.1 in
      let r1 = and_parts (list_all is_none (drop (task_count J) P.tasks)) (list_all is_empty (drop (length J.edges) P.transfers)) r2.0 in
      record {
        counted = eqb-true _ _ g1.0;
        step_placed = λ t step. placed_read P t (all_read (is_placed P) P.steps s1.0 step.0 t step.1);
        step_once = differ_read P.steps s1.1;
        placed_step = λ t there. among_read P.steps t (unless_read (is_none (Some there.0)) (is_among P.steps t) (places_read (step_test J N ρ P) P.tasks s2.1 t (Some there.0) (row_read P.tasks t there.0 there.1)) refl);
        goal_step = λ i edge at some. among_read P.steps edge.to (unless_read (is_empty (starts P i)) (is_among P.steps edge.to) (places_read (goal_test J N ρ P) J.edges g2.1 i edge at) (filled_read (starts P i) some));
        task_known = λ t there. past_read is_none (task_count J) P.tasks r1.0 t (Some there.0) (row_read P.tasks t there.0 there.1) refl;
        edge_known = λ i some. past_read is_empty (length J.edges) P.transfers r1.1 i (starts P i) (starts_read P.transfers i some) (filled_read (starts P i) some);
        on_machine = λ t p at. all_read (machine_test J N ρ P) P.tasks r2.1 t (Some p) (row_read P.tasks t p at);
        predecessor_placed = λ i edge at there. placed_read P edge.from (implied (is_placed P edge.to) (is_placed P edge.from) (all_read (predecessor_test J N ρ P) J.edges g4.1 i edge at) (placed_pass P edge.to there));
        routed = λ i edge at. routed_read J N ρ P i edge (places_read (route_test J N ρ P) J.edges g5.1 i edge at);
        booked = sames_read S.table.bookings (plan_bookings J N ρ P) g6.1;
      }

  test_from_words : InOrder J N ρ S → in_order J N ρ S ≡ true
  unfolding in_order
  test_from_words w =
      let steps : steps_are_placed P ≡ true =
      and_from _ _ (and_from _ _
      (all_pass (is_placed P) P.steps (λ k t at. placed_pass P t (w.step_placed t (k, at))))
      (differ_pass P.steps w.step_once))
      (places_pass (step_test J N ρ P) P.tasks (λ t row at. unless_pass (is_none row) (is_among P.steps t) (λ some.
      let p = none_pass J N ρ P row some in
      let step = w.placed_step t (p.0, row_at J N ρ P t row at ∙ p.1) in
      among_pass P.steps step.0 t step.1)))
      in
      let goals : goals_are_steps J P ≡ true =
      places_pass (goal_test J N ρ P) J.edges (λ i edge at. unless_pass (is_empty (starts P i)) (is_among P.steps edge.to) (λ some.
      let step = w.goal_step i edge at (filled_pass (starts P i) some) in
      among_pass P.steps step.0 edge.to step.1))
      in
      let rows : keeps_rows J N P ≡ true =
      and_from _ _ (and_from _ _
      (past_pass is_none (task_count J) P.tasks (λ t row at some. let p = none_pass J N ρ P row some in w.task_known t (p.0, row_at J N ρ P t row at ∙ p.1)))
      (past_pass is_empty (length J.edges) P.transfers (λ i ss at some. w.edge_known i (λ none. filled_pass ss some (sym (starts_at J N ρ P i ss at) ∙ none)))))
      (all_pass (machine_test J N ρ P) P.tasks (λ t row at. machine_pass J N ρ P row (λ p is. w.on_machine t p (row_at J N ρ P t row at ∙ is))))
      in
      let predecessors : keeps_predecessors J P ≡ true =
      all_pass (predecessor_test J N ρ P) J.edges (λ i edge at. implies (is_placed P edge.to) (is_placed P edge.from) (λ there. placed_pass P edge.from (w.predecessor_placed i edge at (placed_read P edge.to there))))
      in
      let routes : keeps_routes J ρ P ≡ true =
      places_pass (route_test J N ρ P) J.edges (λ i edge at. routed_pass J N ρ P i edge (w.routed i edge at))
      in
      let bookings : are_same S.table.bookings (plan_bookings J N ρ P) ≡ true = subst (λ bs. are_same S.table.bookings bs ≡ true) w.booked (sames_themselves S.table.bookings) in
      and_from _ _ (and_from _ _ (and_from _ _ (and_from _ _ (and_from _ _ (and_from _ _ (eq-eqb _ _ w.counted) steps) goals) rows) predecessors) routes) bookings

pub tested_in_words : TestedInWords
tested_in_words J N ρ S = (words_from_test J N ρ S, test_from_words J N ρ S)
