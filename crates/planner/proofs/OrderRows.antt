-- A test of each row by its number, and marks of the steps so far.
use Rattle.std.proofs.Common.{◌≡◌, ℕ, zero, suc, ◌+◌, ◌-◌, ◌<◌, ◌≤◌, Bool, true, false, not, ◌&&◌, ◌||◌, List, [], ◌∷◌, ◌++◌, length, get_or, set, take, drop, replicate, Some, None, is_some, ◌==◌, refl, sym, ap, ◌∙◌, ⊎_elim, arith}
use Rattle.std.specs.List.{slice_get, list_all, enumerate_from, range_with_len}
use Rattle.std.proofs.Math.ListN.{drop_of_length-le}
use Rattle.std.proofs.lemmas.Bool.{both_ways, cases_eq, and_from, and_left, and_right, or_from, or_right, or_parts, not_from_false, false_from_ne_true, eq-eqb, ne_eqb}
use Rattle.std.proofs.lemmas.List.{drop_more, take_more, take_all, get_or_past, length-set, get_or-set_same, get_or-set_other}
use Rattle.std.proofs.lemmas.List.Folds.{list_all_more, list_all_at}
use Rattle.std.proofs.lemmas.Option.{slice_get-get_or}
use Rattle.model.specs.Plans.{PlanData}
use Rattle.planner.specs.Edges.{is_placed}
use Rattle.planner.specs.Order.{is_among, all_differ}
use Rattle.planner.specs.OrderParts.{Marks}
use Rattle.planner.proofs.ListTests.{among_read, differ_read}

-- a test of each element from a place on, by its number

pub all_from_place : {X : Type 0} (p : X → Bool) (xs : List X) (d : X) (n a : ℕ) → length xs - a ≡ n → list_all (λ i. p (get_or xs i d)) (range_with_len a n) ≡ list_all p (drop a xs)
all_from_place p xs d zero a e = sym (ap (list_all p) (drop_of_length-le xs (omega arith)))
all_from_place p xs d (suc n) a e =
    let l : a < length xs = omega arith in
    ap (λ b. p (get_or xs a d) && b) (all_from_place p xs d n (a + 1) (omega arith)) ∙ sym (ap (list_all p) (drop_more xs a d l))

numbered_from_place : {X : Type 0} (p : ℕ × X → Bool) (xs : List X) (d : X) (n a : ℕ) → length xs - a ≡ n → list_all (λ i. p (i, get_or xs i d)) (range_with_len a n) ≡ list_all p (enumerate_from a (drop a xs))
numbered_from_place p xs d zero a e = sym (ap (λ ys. list_all p (enumerate_from a ys)) (drop_of_length-le xs (omega arith)))
numbered_from_place p xs d (suc n) a e =
    let l : a < length xs = omega arith in
    ap (λ b. p (a, get_or xs a d) && b) (numbered_from_place p xs d n (a + 1) (omega arith)) ∙ sym (ap (λ ys. list_all p (enumerate_from a ys)) (drop_more xs a d l))

pub all_numbered : {X : Type 0} (p : ℕ × X → Bool) (xs : List X) (d : X) (n : ℕ) → length xs ≡ n → list_all (λ i. p (i, get_or xs i d)) (range_with_len 0 n) ≡ list_all p (enumerate_from 0 xs)
all_numbered p xs d n e = numbered_from_place p xs d n 0 (omega arith)

-- one more step

among_push : (ts : List ℕ) (t u : ℕ) → is_among (ts ++ t ∷ []) u ≡ (is_among ts u || (t == u))
among_push [] t u = or_false (t == u)
  where
    or_false : (b : Bool) → (b || false) ≡ (false || b)
    or_false true = refl
    or_false false = refl
among_push (s ∷ ts) t u = go (s == u) (among_push ts t u)
  where
    go : (b : Bool) → is_among (ts ++ t ∷ []) u ≡ (is_among ts u || (t == u)) → (b || is_among (ts ++ t ∷ []) u) ≡ ((b || is_among ts u) || (t == u))
    go true e = refl
    go false e = e

differ_push : (ts : List ℕ) (t : ℕ) → all_differ ts ≡ true → is_among ts t ≡ false → all_differ (ts ++ t ∷ []) ≡ true
differ_push [] t differ apart = refl
differ_push (s ∷ ts) t differ apart =
    let d = and_parts' (not (is_among ts s)) (all_differ ts) differ in
    let a = or_parts (s == t) (is_among ts t) apart in
    let other : (t == s) ≡ false = ne_eqb t s (λ e. both_ways (s == t) a.0 (eq-eqb s t (sym e))) in
    let alone : is_among (ts ++ t ∷ []) s ≡ false = among_push ts t s ∙ or_from (is_among ts s) (t == s) (not_true' (is_among ts s) d.0) other in
    and_from _ _ (not_from_false _ alone) (differ_push ts t d.1 a.1)
  where
    and_parts' : (x y : Bool) → (x && y) ≡ true → (x ≡ true) × (y ≡ true)
    and_parts' true true e = (refl, refl)
    and_parts' true false e = cc e
    and_parts' false y e = cc e

    not_true' : (x : Bool) → not x ≡ true → x ≡ false
    not_true' true e = cc e
    not_true' false e = refl

-- the marks, and what was tested, before step i of some steps ts

pub record StepsSoFar (P : PlanData) (ts : List ℕ) (marks : List Bool) (i : ℕ) : Type 0 where
  pub long : length marks ≡ 128
  pub marked : Marks marks (take i ts)
  pub placed : list_all (is_placed P) (take i ts) ≡ true
  pub once : all_differ (take i ts) ≡ true

pub none_so_far : (P : PlanData) (ts : List ℕ) → StepsSoFar P ts (replicate 128 false) 0
none_so_far P ts = record {
  long = refl;
  marked = λ t. unmarked 128 t;
  placed = refl;
  once = refl;
}
  where
    unmarked : (n t : ℕ) → get_or (replicate n false) t false ≡ false
    unmarked zero t = refl
    unmarked (suc n) zero = refl
    unmarked (suc n) (suc t) = unmarked n t

-- a task past the rows is not placed
pub placed_past : (P : PlanData) (t : ℕ) → length P.tasks ≡ 128 → 128 ≤ t → is_placed P t ≡ false
placed_past P t long past = ap is_some (get_or_past P.tasks t None (omega arith))

take_read : {X : Type 0} (xs : List X) (n k : ℕ) (x : X) → slice_get (take n xs) k ≡ Some x → (k < n) × (slice_get xs k ≡ Some x)
take_read xs zero k x e = cc e
take_read [] (suc n) k x e = cc e
take_read (y ∷ xs) (suc n) zero x e = (omega arith, e)
take_read (y ∷ xs) (suc n) (suc k) x e = let r = take_read xs n k x e in (omega (arith, r.0), r.1)

or_no : (a b : Bool) → b ≡ false → a ≡ (a || b)
or_no true b e = refl
or_no false b e = sym e

mark_more : (marks : List Bool) (ts : List ℕ) (t : ℕ) → Marks marks ts → t < length marks → Marks (set marks t true) (ts ++ t ∷ [])
mark_more marks ts t marked at u =
    ⊎_elim
    (λ (same : u ≡ t).
    ap (λ v. get_or (set marks t true) v false) same ∙ get_or-set_same marks t true false at ∙ sym (or_right (is_among ts u) (t == u) (eq-eqb t u (sym same))))
    (λ other.
    get_or-set_other marks t u true false other ∙ marked u ∙ or_no (is_among ts u) (t == u) (ne_eqb t u (λ e. other (sym e))))
    (cases_eq u t)
    ∙ sym (among_push ts t u)

module _ (P : PlanData) (ts : List ℕ) (marks : List Bool) (i : ℕ) (so_far : StepsSoFar P ts marks i) (inside : i < length ts) where
  abbrev t : ℕ
  t = get_or ts i 0

  -- a step that is not placed
  pub step_unplaced : is_placed P t ≡ false → (list_all (is_placed P) ts && all_differ ts) ≡ false
  step_unplaced e = and_left _ _ (list_all_at (is_placed P) ts i 0 inside e)

  -- a step that stands before
  pub step_again : get_or marks t false ≡ true → (list_all (is_placed P) ts && all_differ ts) ≡ false
  step_again e =
      and_right _ _ (false_from_ne_true (all_differ ts) (λ differ.
      let before = among_read (take i ts) t (sym (so_far.marked t) ∙ e) in
      let there = take_read ts i before.0 t before.1 in
      let same = differ_read ts differ before.0 i t there.1 (slice_get-get_or ts i 0 inside) in
      absurd (omega (arith, there.0, same))))

  -- one that is placed, and does not
  pub step_marked : is_placed P t ≡ true → t < 128 → get_or marks t false ≡ false → StepsSoFar P ts (set marks t true) (i + 1)
  step_marked is_placed_t known unmarked =
      let upto : take (i + 1) ts ≡ take i ts ++ t ∷ [] = take_more ts i 0 inside in
      let at : t < length marks = omega (arith, so_far.long, known) in
      record {
        long = length-set marks t true ∙ so_far.long;
        marked = λ u. mark_more marks (take i ts) t so_far.marked at u ∙ sym (ap (λ us. is_among us u) upto);
        placed = list_all_more (is_placed P) ts i 0 inside ∙ and_from _ _ so_far.placed is_placed_t;
        once = ap all_differ upto ∙ differ_push (take i ts) t so_far.once (sym (so_far.marked t) ∙ unmarked);
      }

pub all_marked : (P : PlanData) (ts : List ℕ) (marks : List Bool) (i : ℕ) → StepsSoFar P ts marks i → length ts ≤ i → ((list_all (is_placed P) ts && all_differ ts) ≡ true) × Marks marks ts
all_marked P ts marks i s end =
    let whole : take i ts ≡ ts = take_all i ts end in (
      and_from _ _ (ap (list_all (is_placed P)) (sym whole) ∙ s.placed) (ap all_differ (sym whole) ∙ s.once),
      λ t. s.marked t ∙ ap (λ us. is_among us t) whole,
    )
