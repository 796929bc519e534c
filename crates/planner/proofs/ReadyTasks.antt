-- Bottom levels fall along edges, so fill takes each task after its predecessors.
use Rattle.std.proofs.Common.{◌≡◌, ℕ, zero, suc, ◌+◌, ◌<◌, ◌≤◌, Bool, true, false, not, cond, List, [], ◌∷◌, map, max, filter, fold, get_or, Some, ◌==◌, refl, sym, ap, subst, ◌∙◌, inl, inr, ⊎_elim, eq-eqb, arith}
use Rattle.std.specs.List.{slice_get, range_with_len}
use Rattle.std.proofs.lemmas.Bool.{cases_Bool, cases_lt, not_from_false}
use Rattle.std.proofs.lemmas.List.FromFn.{length-range_with_len, get_or-range_with_len}
use Rattle.std.proofs.lemmas.List.Sorted.{Contains-permutation}
use Rattle.std.proofs.lemmas.Option.{get_or_from_slice_get, slice_get-get_or, slice_get_within}
use Rattle.model.specs.Data.{JobData, task_count}
use Rattle.model.specs.JobLimits.{JobLimits}
use Rattle.model.specs.Plans.{PlanData}
use Rattle.model.specs.declared.job.Edge.{Edge}
use Rattle.planner.specs.Edges.{is_placed, outgoing}
use Rattle.planner.specs.FillLaws.{ComesBefore, BottomLevelsFall, TakenWhenReady}
use Rattle.planner.specs.Filling.{by_priority, unplaced_tasks}
use Rattle.planner.specs.Levels.{bottom_level}
use Rattle.planner.proofs.BottomLevels.{bottom_level_in_words}
use Rattle.planner.proofs.ListTests.{some_same, none≢some}
use Rattle.planner.proofs.Priorities.{fill_takes_in_order}

-- the greatest of some numbers is none below any of them

above_first : (n : ℕ) (ns : List ℕ) → n ≤ fold max n ns
above_first n [] = omega arith
above_first n (m ∷ ns) = omega (arith, above_first (max n m) ns)

module _ (f : Edge → ℕ) (t : ℕ) where
  above_each : (n i : ℕ) (e : Edge) (es : List Edge) → slice_get es i ≡ Some e → e.from ≡ t → f e ≤ fold max n (map f (outgoing es t))
  above_each n i e [] at out = absurd (none≢some e at)
  above_each n zero e (x ∷ es) at out =
      let same : x ≡ e = some_same x e at in
      let hit : (x.from == t) ≡ true = eq-eqb x.from t (ap (λ (y : Edge). y.from) same ∙ out) in
      subst (λ b. f e ≤ fold max n (map f (cond b (x ∷ outgoing es t) (outgoing es t)))) (sym hit)
      (omega (arith, above_first (max n (f x)) (map f (outgoing es t)), ap f same))
  above_each n (suc i) e (x ∷ es) at out = step (λ m. above_each m i e es at out) (x.from == t)
    where
      step : ((m : ℕ) → f e ≤ fold max m (map f (outgoing es t))) → (b : Bool) → f e ≤ fold max n (map f (cond b (x ∷ outgoing es t) (outgoing es t)))
      step later true = later (max n (f x))
      step later false = later n

pub bottom_levels_fall : BottomLevelsFall
bottom_levels_fall J limits i e at =
    let rises = limits.each_rises i e at in
    let words = bottom_level_in_words J limits e.from (omega (arith, rises.0, rises.1)) in
    let way = above_each (λ x. x.volume + bottom_level J x.to) e.from 0 i e J.edges at refl in
    omega (arith, words, way, (limits.each_volume i e at).0)

-- what passes a test is among what is left by it
filtered : {X : Type 0} (p : X → Bool) (xs : List X) (k : ℕ) (x : X) → slice_get xs k ≡ Some x → p x ≡ true → (j : ℕ) × (slice_get (filter p xs) j ≡ Some x)
filtered p [] k x at passes = absurd (none≢some x at)
filtered {X} p (y ∷ xs) zero x at passes =
    let same : y ≡ x = some_same y x at in
    (0, ap (λ b. slice_get (cond b (y ∷ filter p xs) (filter p xs)) 0) (ap p same ∙ passes) ∙ at)
filtered p (y ∷ xs) (suc k) x at passes = step (filtered p xs k x at passes) (p y)
  where
    step : (j : ℕ) × (slice_get (filter p xs) j ≡ Some x) → (b : Bool) → (j : ℕ) × (slice_get (cond b (y ∷ filter p xs) (filter p xs)) j ≡ Some x)
    step (j, there) true = (suc j, there)
    step (j, there) false = (j, there)

module _ (J : JobData) (limits : JobLimits J.works J.edges) (P : PlanData) where
  abbrev order : List ℕ
  order = by_priority (bottom_level J) (unplaced_tasks J P)

  -- a task that is not placed is one of those that fill takes
  taken_somewhere : (u : ℕ) → u < task_count J → is_placed P u ≡ false → (j : ℕ) × (slice_get order j ≡ Some u)
  taken_somewhere u within unplaced =
      let there = filtered (λ t. not (is_placed P t)) (range_with_len 0 (task_count J)) u u (number u within) (not_from_false (is_placed P u) unplaced) in
      let in_order = Contains-permutation (unplaced_tasks J P) order u (fill_takes_in_order (bottom_level J) J P).tasks (there.0, slice_get_within _ there.0 u there.1, get_or_from_slice_get _ there.0 u u there.1) in
      (in_order.0, slice_get-get_or order in_order.0 u in_order.1 ∙ ap Some in_order.2)
    where
      number : (u : ℕ) → u < task_count J → slice_get (range_with_len 0 (task_count J)) u ≡ Some u
      number u within =
          let zero_u : 0 + u ≡ u = omega arith in
          slice_get-get_or (range_with_len 0 (task_count J)) u u (omega (arith, length-range_with_len 0 (task_count J))) ∙ ap Some (get_or-range_with_len 0 (task_count J) u u within ∙ zero_u)

  -- a task whose level is higher stands before one whose level is lower
  higher_first : (j k u t : ℕ) → slice_get order j ≡ Some u → slice_get order k ≡ Some t → bottom_level J t < bottom_level J u → j < k
  higher_first j k u t at_j at_k falls =
      ⊎_elim
      (λ less. less)
      (λ (more : k ≤ j). ⊎_elim
      (λ (after : k < j).
      let before : ComesBefore (bottom_level J) (get_or order k t) (get_or order j t) = (fill_takes_in_order (bottom_level J) J P).order k j t after (slice_get_within order j u at_j) in
      let is_t = get_or_from_slice_get order k t t at_k in
      let is_u = get_or_from_slice_get order j u t at_j in
      let pair : ComesBefore (bottom_level J) t u = subst (λ v. ComesBefore (bottom_level J) t v) is_u (subst (λ v. ComesBefore (bottom_level J) v (get_or order j t)) is_t before) in
      absurd (⊎_elim (λ lower. omega arith) (λ equal. omega (arith, equal.0)) pair))
      (λ (level : j ≤ k).
      let same : j ≡ k = omega arith in
      let one : u ≡ t = some_same u t (sym at_j ∙ ap (λ n. slice_get order n) same ∙ at_k) in
      absurd (omega (arith, ap (bottom_level J) one)))
      (cases_lt k j))
      (cases_lt j k)

pub taken_when_ready : TakenWhenReady
taken_when_ready J limits P k i e at taken =
    ⊎_elim
    (λ is. inl is)
    (λ unplaced.
    let rises = limits.each_rises i e at in
    let there = taken_somewhere J limits P e.from (omega (arith, rises.0, rises.1)) unplaced in
    inr (there.0, higher_first J limits P there.0 k e.from e.to there.1 taken (bottom_levels_fall J limits i e at), there.1))
    (cases_Bool (is_placed P e.from))
