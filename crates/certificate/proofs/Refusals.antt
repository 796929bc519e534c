-- What a task that is not refused is known to have: a machine, placed predecessors, and a way for each edge into it.
use Rattle.std.proofs.Common.{◌≡◌, ℕ, zero, suc, ◌+◌, ◌<◌, Bool, true, false, not, List, [], ◌∷◌, map, filter, is_none, is_some, find, option_map, Some, None, Ok, Option, Result, ◌==◌, if◌then◌else◌, refl, sym, ap, subst, ◌∙◌}
use Rattle.std.specs.Bool.{nat_lt, then_some}
use Rattle.std.specs.List.{slice_get, enumerate_from}
use Rattle.std.proofs.lemmas.Bool.{ltb-true, eq-eqb, both_ways}
use Rattle.model.specs.Data.{JobData, NetData, task_count, is_machine}
use Rattle.model.specs.Plans.{PlanData, task_row}
use Rattle.model.specs.Refusals.{or_else}
use Rattle.model.specs.declared.job.Edge.{Edge}
use Rattle.model.specs.declared.plan.Placement.{Placement}
use Rattle.model.specs.declared.refusal.Refusal.{Refusal}
use Rattle.model.specs.declared.refusal.Refusal.TheVariants.{NoSuchTask, NotAMachine, AlreadyPlaced, PredecessorUnplaced, NoRoute}
use Rattle.routes.specs.Legs.{Ways}
use Rattle.routes.specs.declared.hop.Hop.{Hop}
use Rattle.timetable.specs.Earliest.{least, lesser}
use Rattle.planner.specs.Chains.{unless}
use Rattle.planner.specs.Edges.{is_placed, way_to}
use Rattle.planner.specs.Outcomes.{DrawState}
use Rattle.planner.specs.Placing.{place_refusal, unplaced_predecessor, edge_without_route}
use Rattle.planner.proofs.ListTests.{some_same, none≢some}

-- the edges into task t of those from number n on
abbrev pub into_from : ℕ → ℕ → List Edge → List (ℕ × Edge)
into_from t n es = filter (λ (i, e). e.to == t) (enumerate_from n es)

-- none of several refusals

none_either : {E : Type 0} (o p : Option E) → or_else o p ≡ None → (o ≡ None) × (p ≡ None)
none_either None p h = (refl, h)
none_either (Some x) p h = absurd (none≢some x (sym h))

not_then : {A : Type 0} (b : Bool) (x : A) → then_some b x ≡ None → b ≡ false
not_then true x h = absurd (none≢some x (sym h))
not_then false x h = refl

not_not : (b : Bool) → not b ≡ false → b ≡ true
not_not true h = refl
not_not false h = absurd (both_ways true h refl)

none_mapped : {A B : Type 0} (f : A → B) (o : Option A) → option_map f o ≡ None → o ≡ None
none_mapped f None h = refl
none_mapped f (Some x) h = absurd (none≢some (f x) (sym h))

pub unless_ok : {A : Type 0} (o : Option Refusal) (call : Result A Refusal) (a : A) → unless o call ≡ Ok a → (o ≡ None) × (call ≡ Ok a)
unless_ok None call a h = (refl, h)
unless_ok (Some x) call a h = cc h

-- the edges into a task

least_none : (xs : List ℕ) → least xs ≡ None → xs ≡ []
least_none [] h = refl
least_none (x ∷ xs) h = absurd (none≢some (lesser x (least xs)) (sym h))

-- the test's outcome at a first element, which the list without it cannot have
kept_none : (b : Bool) (u : ℕ) (us : List ℕ) → (if b then u ∷ us else us) ≡ [] → (b ≡ false) × (us ≡ [])
kept_none true u us h = cc h
kept_none false u us h = (refl, h)

found_none : {A : Type 0} (b : Bool) (x : A) (o : Option A) → (if b then Some x else o) ≡ None → (b ≡ false) × (o ≡ None)
found_none true x o h = absurd (none≢some x (sym h))
found_none false x o h = (refl, h)

is_none_false : {A : Type 0} (o : Option A) → is_none o ≡ false → (x : A) × (o ≡ Some x)
is_none_false None h = cc h
is_none_false (Some x) h = (x, refl)

module _ (P : PlanData) (t : ℕ) where
  abbrev unplaced_into : ℕ → List Edge → List ℕ
  unplaced_into n es = filter (λ u. not (is_placed P u)) (map (λ (i, e). e.from) (into_from t n es))

  placed_into : (n : ℕ) (es : List Edge) → unplaced_into n es ≡ [] → (k : ℕ) (e : Edge) → slice_get es k ≡ Some e → e.to ≡ t → is_placed P e.from ≡ true
  placed_into n [] none k e at to = absurd (none≢some e at)
  placed_into n (x ∷ es) none k e at to = go (λ rest j there. placed_into (n + 1) es rest j e there to) (x.to == t) refl none k at
    where
      go : (unplaced_into (n + 1) es ≡ [] → (j : ℕ) → slice_get es j ≡ Some e → is_placed P e.from ≡ true) → (b : Bool) → (x.to == t) ≡ b → filter (λ u. not (is_placed P u)) (map (λ (i, e). e.from) (if b then (n, x) ∷ into_from t (n + 1) es else into_from t (n + 1) es)) ≡ [] → (k : ℕ) → slice_get (x ∷ es) k ≡ Some e → is_placed P e.from ≡ true
      go more true is none zero at =
          let first = (kept_none (not (is_placed P x.from)) x.from (unplaced_into (n + 1) es) none).0 in
          subst (λ y. is_placed P y.from ≡ true) (some_same x e at) (not_not (is_placed P x.from) first)
      go more false is none zero at = absurd (both_ways (x.to == t) is (eq-eqb x.to t (ap (λ y. y.to) (some_same x e at) ∙ to)))
      go more true is none (suc k) at = more (kept_none (not (is_placed P x.from)) x.from (unplaced_into (n + 1) es) none).1 k at
      go more false is none (suc k) at = more none k at

  module _ (ρ : Ways) (m : ℕ) where
    abbrev wayless_into : ℕ → List Edge → Option (ℕ × Edge)
    wayless_into n es = find (λ (i, e). is_none (way_to ρ P m e)) (into_from t n es)

    routed_into : (n : ℕ) (es : List Edge) → wayless_into n es ≡ None → (k : ℕ) (e : Edge) → slice_get es k ≡ Some e → e.to ≡ t → is_none (way_to ρ P m e) ≡ false
    routed_into n [] none k e at to = absurd (none≢some e at)
    routed_into n (x ∷ es) none k e at to = go (λ rest j there. routed_into (n + 1) es rest j e there to) (x.to == t) refl none k at
      where
        go : (wayless_into (n + 1) es ≡ None → (j : ℕ) → slice_get es j ≡ Some e → is_none (way_to ρ P m e) ≡ false) → (b : Bool) → (x.to == t) ≡ b → find (λ (i, e). is_none (way_to ρ P m e)) (if b then (n, x) ∷ into_from t (n + 1) es else into_from t (n + 1) es) ≡ None → (k : ℕ) → slice_get (x ∷ es) k ≡ Some e → is_none (way_to ρ P m e) ≡ false
        go more true is none zero at =
            let first = (found_none (is_none (way_to ρ P m x)) (n, x) (wayless_into (n + 1) es) none).0 in
            subst (λ y. is_none (way_to ρ P m y) ≡ false) (some_same x e at) first
        go more false is none zero at = absurd (both_ways (x.to == t) is (eq-eqb x.to t (ap (λ y. y.to) (some_same x e at) ∙ to)))
        go more true is none (suc k) at = more (found_none (is_none (way_to ρ P m x)) (n, x) (wayless_into (n + 1) es) none).1 k at
        go more false is none (suc k) at = more none k at

-- what is known of a task t that is not refused on machine m
pub record Unrefused (J : JobData) (N : NetData) (ρ : Ways) (P : PlanData) (t m : ℕ) : Type 0 where
  pub known : t < task_count J
  pub machine : is_machine N m ≡ true
  pub blank : task_row P t ≡ None
  pub placed : (i : ℕ) (e : Edge) → slice_get J.edges i ≡ Some e → e.to ≡ t → (p : Placement) × (task_row P e.from ≡ Some p)
  pub routed : (i : ℕ) (e : Edge) → slice_get J.edges i ≡ Some e → e.to ≡ t → (hs : List Hop) × (way_to ρ P m e ≡ Some hs)

pub unrefused : (J : JobData) (N : NetData) (ρ : Ways) (S : DrawState) (t m : ℕ) → place_refusal J N ρ S t m ≡ None → Unrefused J N ρ S.plan t m
unfolding place_refusal
unrefused J N ρ S t m none =
    let r1 = none_either (then_some (not (nat_lt t (task_count J))) (NoSuchTask t)) _ none in
    let r2 = none_either (then_some (not (is_machine N m)) (NotAMachine m)) _ r1.1 in
    let r3 = none_either (then_some (is_placed S.plan t) (AlreadyPlaced t)) _ r2.1 in
    let r4 = none_either (option_map PredecessorUnplaced (unplaced_predecessor J S.plan t)) _ r3.1 in
    let r5 = none_either (option_map NoRoute (edge_without_route J ρ S.plan t m)) _ r4.1 in
    record {
      known = ltb-true _ _ (not_not _ (not_then _ _ r1.0));
      machine = not_not _ (not_then _ _ r2.0);
      blank = blank_row (task_row S.plan t) (not_then _ _ r3.0);
      placed = λ i e at to. some_row (task_row S.plan e.from) (placed_into S.plan t 0 J.edges (least_none _ (none_mapped PredecessorUnplaced (unplaced_predecessor J S.plan t) r4.0)) i e at to);
      routed = λ i e at to. is_none_false (way_to ρ S.plan m e) (routed_into S.plan t ρ m 0 J.edges (none_mapped (λ (i, e). i) (wayless_into S.plan t ρ m 0 J.edges) (none_mapped NoRoute (edge_without_route J ρ S.plan t m) r5.0)) i e at to);
    }
  where
    blank_row : (o : Option Placement) → is_some o ≡ false → o ≡ None
    blank_row None h = refl
    blank_row (Some p) h = cc h

    some_row : (o : Option Placement) → is_some o ≡ true → (p : Placement) × (o ≡ Some p)
    some_row (Some p) h = (p, refl)
    some_row None h = cc h
