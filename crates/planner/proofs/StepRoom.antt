-- A plan that is in order has room for the step of a task that is not placed.
use Rattle.std.proofs.Common.{◌≡◌, ℕ, zero, suc, ◌<◌, ◌≤◌, Bool, true, false, cond, not, ◌≢◌, List, [], ◌∷◌, length, is_some, Ok, ◌==◌, refl, sym, ap, ◌∙◌, ⊎_elim, arith}
use Rattle.std.proofs.lemmas.Bool.{and_parts, and_from, or_cases, or_left, or_right, both_ways, cases_Bool, not_from_false, eqb-true, eq-eqb, lt-ltb}
use Rattle.model.specs.Data.{JobData, NetData, task_count}
use Rattle.model.specs.Plans.{step_fits}
use Rattle.routes.specs.Legs.{Ways}
use Rattle.planner.specs.Edges.{is_placed}
use Rattle.planner.specs.Order.{is_among, all_differ}
use Rattle.planner.specs.Outcomes.{DrawState}
use Rattle.planner.specs.Placing.{placed}
use Rattle.planner.specs.States.{Given, Ordered}
use Rattle.planner.proofs.AfterPlacing.{placed_is}
use Rattle.planner.proofs.ListTests.{not_true, among_read, differ_pass}
use Rattle.planner.proofs.Ordered.{placed_pass, tested_in_words}

-- the list without the first place of x
without : ℕ → List ℕ → List ℕ
without x [] = []
without x (y ∷ ys) = cond (y == x) ys (y ∷ without x ys)

first_differs : (y : ℕ) (ys : List ℕ) → all_differ (y ∷ ys) ≡ true → is_among ys y ≡ false
first_differs y ys d = not_true (is_among ys y) (and_parts (not (is_among ys y)) (all_differ ys) d).0

rest_differs : (y : ℕ) (ys : List ℕ) → all_differ (y ∷ ys) ≡ true → all_differ ys ≡ true
rest_differs y ys d = (and_parts (not (is_among ys y)) (all_differ ys) d).1

one_less : (x : ℕ) (ys : List ℕ) → length ys ≤ suc (length (without x ys))
unfolding without
one_less x [] = omega arith
one_less x (y ∷ ys) = step (one_less x ys) (y == x)
  where
    step : length ys ≤ suc (length (without x ys)) → (b : Bool) → suc (length ys) ≤ suc (length (cond b ys (y ∷ without x ys)))
    step rest true = omega arith
    step rest false = omega (arith, rest)

-- what is left is of the list, and is not x
left_among : (x z : ℕ) (ys : List ℕ) → all_differ ys ≡ true → is_among (without x ys) z ≡ true → (is_among ys z ≡ true) × (z ≢ x)
unfolding without
left_among x z [] d at = cc at
left_among x z (y ∷ ys) d at = step (left_among x z ys (rest_differs y ys d)) (y == x) refl at
  where
    step : (is_among (without x ys) z ≡ true → (is_among ys z ≡ true) × (z ≢ x)) → (b : Bool) → (y == x) ≡ b → is_among (cond b ys (y ∷ without x ys)) z ≡ true → (is_among (y ∷ ys) z ≡ true) × (z ≢ x)
    step rest true e at =
        (or_right (y == z) (is_among ys z) at, λ same. both_ways (is_among ys y) (first_differs y ys d) (ap (λ u. is_among ys u) (eqb-true y x e ∙ sym same) ∙ at))
    step rest false e at = ⊎_elim
        (λ here. (or_left (y == z) (is_among ys z) here, λ same. both_ways (y == x) e (eq-eqb y x (eqb-true y z here ∙ same))))
        (λ later. let r = rest later in (or_right (y == z) (is_among ys z) r.0, r.1))
        (or_cases (y == z) (is_among (without x ys) z) at)

left_differ : (x : ℕ) (ys : List ℕ) → all_differ ys ≡ true → all_differ (without x ys) ≡ true
unfolding without
left_differ x [] d = refl
left_differ x (y ∷ ys) d = step (left_differ x ys (rest_differs y ys d)) (y == x)
  where
    none : is_among (without x ys) y ≡ false
    none = ⊎_elim
        (λ there. absurd (both_ways (is_among ys y) (first_differs y ys d) (left_among x y ys (rest_differs y ys d) there).0))
        (λ no. no)
        (cases_Bool (is_among (without x ys) y))

    step : all_differ (without x ys) ≡ true → (b : Bool) → all_differ (cond b ys (y ∷ without x ys)) ≡ true
    step rest true = rest_differs y ys d
    step rest false = and_from (not (is_among (without x ys) y)) (all_differ (without x ys)) (not_from_false _ none) rest

-- there are at most n different numbers below n
pub few_below : (n : ℕ) (ys : List ℕ) → all_differ ys ≡ true → ((y : ℕ) → is_among ys y ≡ true → y < n) → length ys ≤ n
few_below zero [] d below = omega arith
few_below zero (y ∷ ys) d below = let l = below y (or_left (y == y) (is_among ys y) (eq-eqb y y refl)) in absurd (omega (arith, l))
few_below (suc n) ys d below =
    let rest = few_below n (without n ys) (left_differ n ys d) (λ y at. let r = left_among n y ys d at in let l = below y r.0 in let no = r.1 in omega (arith, l, no)) in
    omega (arith, rest, one_less n ys)

pub step_fits_in_order : (J : JobData) (N : NetData) (ρ : Ways) → Given J N ρ → (S : DrawState) (t : ℕ) → Ordered J N ρ S → t < task_count J → is_placed S.plan t ≡ false → step_fits S.plan t ≡ true
step_fits_in_order J N ρ given S t ordered known blank =
    let words = (tested_in_words J N ρ S).0 ordered.tested in
    let no_step : is_among S.plan.steps t ≡ false = ⊎_elim
    (λ there. absurd (both_ways (is_placed S.plan t) blank (placed_pass S.plan t (words.step_placed t (among_read S.plan.steps t there)))))
    (λ no. no)
    (cases_Bool (is_among S.plan.steps t))
    in
    let differ : all_differ (t ∷ S.plan.steps) ≡ true = and_from (not (is_among S.plan.steps t)) (all_differ S.plan.steps) (not_from_false _ no_step) (differ_pass S.plan.steps words.step_once) in
    let few = few_below (task_count J) (t ∷ S.plan.steps) differ (λ u at. ⊎_elim
    (λ here. let same = eqb-true t u here in omega (arith, known, same))
    (λ later. words.task_known u (words.step_placed u (among_read S.plan.steps u later)))
    (or_cases (t == u) (is_among S.plan.steps u) at))
    in
    let tasks = given.job.few_tasks in
    and_from _ _ (lt-ltb t 128 (omega (arith, known, tasks))) (lt-ltb (length S.plan.steps) 128 (omega (arith, few, tasks)))

-- so where a task was placed, there was room for its step
pub placed_fits : (J : JobData) (N : NetData) (ρ : Ways) → Given J N ρ → (S after : DrawState) (t m f : ℕ) → Ordered J N ρ S → placed J N ρ S t m ≡ Ok (f, after) → step_fits S.plan t ≡ true
placed_fits J N ρ given S after t m f ordered e =
    let task = (placed_is J N ρ given S t m ordered f after e).may.allowed in
    step_fits_in_order J N ρ given S t ordered task.known (ap is_some task.blank)
