-- The first answer among a list's elements: what `find_map` gives, and what `lowest` names.
use Rattle.std.proofs.Common.{◌≡◌, ℕ, zero, suc, ◌+◌, ◌<◌, ◌≤◌, Bool, true, false, cond, List, [], ◌∷◌, ◌++◌, map, length, drop, IsTrue, Some, None, Option, sym, refl, ap, ◌∙◌, subst, arith}
use denote.Param.Members.{Mut}
use Rattle.std.specs.Fn.{Called}
use Rattle.std.specs.Option.{MatchOption, IsSomeAnd, option_map}
use Rattle.std.specs.List.{slice_get, range_with_len}
use Rattle.std.specs.Iterator.Runs.{SomeRun, AllItemsGive, IsFirstToGive}
use Rattle.std.proofs.iter.runs.Made.{took, at-is}
use Rattle.std.proofs.lemmas.Bool.{cond-true, cond-false}
use Rattle.std.proofs.lemmas.List.{take-append-drop}
use Rattle.std.proofs.lemmas.Iterator.{YieldsList}
use Rattle.std.proofs.lemmas.Iterator.Consumers.{YieldsList-so_far, YieldsList-end}
use Rattle.model.specs.Lowest.{lowest}
use Rattle.model.specs.Refusals.{or_else}
use Rattle.model.proofs.Lowests.{lowest_all, lowest_found}

abbrev pub first_answer : {B C : Type 0} → (B → Option C) → List B → Option C
first_answer h [] = None
first_answer h (x ∷ xs) = or_else (h x) (first_answer h xs)

some_then : {A : Type 0} (o : Option A) (P Q : A → Type 0) → IsSomeAnd o P → ((x : A) → P x → Q x) → IsSomeAnd o Q
some_then None P Q h f = absurd h
some_then (Some x) P Q h f = f x h

if_then : {A : Type 0} (o : Option A) (P Q : A → Type 0) → MatchOption o (Unit {0}) P → ((x : A) → P x → Q x) → MatchOption o (Unit {0}) Q
if_then None P Q h f = tt
if_then (Some x) P Q h f = f x h

module _ {A B C : Type 0} (v : A → B) (h : B → Option C) where
  none_answers : (xs : List A) → ((k : ℕ) → MatchOption (slice_get xs k) (Unit {0}) (λ x. h (v x) ≡ None)) → first_answer h (map v xs) ≡ None
  none_answers [] e = refl
  none_answers (x ∷ xs) e = ap (λ o. or_else o (first_answer h (map v xs))) (e 0) ∙ none_answers xs (λ k. e (suc k))

  one_answers : (xs : List A) (i : ℕ) (y : C) (zs : List B) → IsSomeAnd (slice_get xs i) (λ x. h (v x) ≡ Some y) → ((k : ℕ) → k < i → IsSomeAnd (slice_get xs k) (λ x. h (v x) ≡ None)) → first_answer h (map v xs ++ zs) ≡ Some y
  one_answers [] i y zs s n = absurd s
  one_answers (x ∷ xs) zero y zs s n = ap (λ o. or_else o (first_answer h (map v xs ++ zs))) s
  one_answers (x ∷ xs) (suc i) y zs s n = ap (λ o. or_else o (first_answer h (map v xs ++ zs))) (n 0 (omega arith)) ∙ one_answers xs i y zs s (λ k l. n (suc k) (omega arith))

-- `find_map` over a chain that gives `all`, by a closure that computes h
pub find_map_from_yields_List : {S A B C F : Type 0} {steps : S → Option A → S → Type 0} {v : A → B} {s : S} {all : List B} {g : Mut F (A × Unit {0}) (Option C)} (h : B → Option C) (f : F) (r : Option C)
    → SomeRun steps s (λ p. MatchOption r (IsTrue p.whole × AllItemsGive p g f None) (λ y. (i : ℕ) × (i < p.len) × (p.len ≡ i + 1) × IsFirstToGive p g f (Some y) None i))
    → YieldsList steps v s all
    → ((x : A) (b : Option C) (q : F) → Called g f (x, tt) b q → (q ≡ f) × (b ≡ h (v x)))
    → r ≡ first_answer h all
find_map_from_yields_List {C = C} {steps = steps} {v = v} {all = all} {g = g} h f None ran road computes =
    let p = ran.0 in
    let road_p = subst (λ z. YieldsList steps v z all) (sym ran.1) road in
    let end = took p in
    let last = end.2 ran.2.0 in
    let whole = YieldsList-end road_p p.items end.0 end.1 None last.0 refl last.1 in
    let each = ran.2.1 (λ a b q k. (computes a.0 b q k).0) in
    let none = none_answers v h p.items (λ k. if_then (slice_get p.items k) (λ x. Called g f (x, tt) None f) (λ x. h (v x) ≡ None) (subst (λ o. MatchOption o (Unit {0}) (λ x. Called g f (x, tt) None f)) (at-is p k) (each k)) (λ x k. sym (computes x None f k).1)) in
    sym (ap (first_answer h) (sym whole.0) ∙ none)
find_map_from_yields_List {C = C} {steps = steps} {v = v} {all = all} {g = g} h f (Some y) ran road computes =
    let p = ran.0 in
    let road_p = subst (λ z. YieldsList steps v z all) (sym ran.1) road in
    let end = took p in
    let front = YieldsList-so_far road_p p.items end.0 end.1 in
    let i = ran.2.0 in
    let first = ran.2.3 (λ a b q k. (computes a.0 b q k).0) in
    let at = λ (o : Option C) (k : ℕ) (l : IsSomeAnd (p.at k) (λ x. Called g f (x, tt) o f)). some_then (slice_get p.items k) (λ x. Called g f (x, tt) o f) (λ x. h (v x) ≡ o) (subst (λ z. IsSomeAnd z (λ x. Called g f (x, tt) o f)) (at-is p k) l) (λ x d. sym (computes x o f d).1) in
    let rest = drop (length p.items) all in
    let one = one_answers v h p.items i y rest (at (Some y) i first.0) (λ k l. at None k (first.1 k l)) in
    sym (ap (first_answer h) (sym (take-append-drop (length p.items) all)) ∙ ap (λ z. first_answer h (z ++ rest)) (sym front) ∙ one)

module _ {C : Type 0} where
  or_nothing : (o : Option C) → or_else o None ≡ o
  or_nothing None = refl
  or_nothing (Some x) = refl

  or_or : (o p q : Option C) → or_else (or_else o p) q ≡ or_else o (or_else p q)
  or_or None p q = refl
  or_or (Some x) p q = refl

  answers_more : (f : ℕ → Option C) (a n : ℕ) → first_answer f (range_with_len a (suc n)) ≡ or_else (first_answer f (range_with_len a n)) (f (a + n))
  answers_more f a zero = let same : a ≡ a + 0 = omega arith in or_nothing (f a) ∙ ap f same
  answers_more f a (suc n) =
      let same : a + 1 + n ≡ a + suc n = omega arith in
      ap (or_else (f a)) (answers_more f (a + 1) n)
      ∙ sym (or_or (f a) (first_answer f (range_with_len (a + 1) n)) (f (a + 1 + n)))
      ∙ ap (λ k. or_else (first_answer f (range_with_len a (suc n))) (f k)) same

  pub first_lowest : (f : ℕ → Option C) (n : ℕ) → first_answer f (range_with_len 0 n) ≡ lowest f n
  unfolding lowest
  first_lowest f zero = refl
  first_lowest f (suc n) =
      let same : 0 + n ≡ n = omega arith in
      answers_more f 0 n ∙ ap (λ o. or_else o (f (0 + n))) (first_lowest f n) ∙ ap (λ k. or_else (lowest f n) (f k)) same

  -- the same of `find`, where the answer of each number that passes is w of it
  pub lowest_where : (t : ℕ → Bool) (w : ℕ → C) (n : ℕ) (o : Option ℕ) → MatchOption o ((k : ℕ) → 0 ≤ k → k < n → t k ≡ false) (λ i. (0 ≤ i) × (i < n) × (t i ≡ true) × ((k : ℕ) → 0 ≤ k → k < i → t k ≡ false)) → option_map w o ≡ lowest (λ y. cond (t y) (Some (w y)) None) n
  lowest_where t w n None h = sym (lowest_all (λ y. cond (t y) (Some (w y)) None) n (λ k l. cond-false _ _ _ (h k (omega arith) l)))
  lowest_where t w n (Some i) h =
      let f : ℕ → Option C = λ y. cond (t y) (Some (w y)) None in
      sym (lowest_found f i n (w i) (lowest_all f i (λ k l. cond-false _ _ _ (h.3 k (omega arith) l))) (cond-true _ _ _ h.2) h.1)
