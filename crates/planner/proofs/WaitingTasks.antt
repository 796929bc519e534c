-- The tasks that wait, as they come into a queue and out of it.
use Rattle.std.proofs.Common.{◌≡◌, ℕ, zero, suc, ◌+◌, ◌<◌, ◌≤◌, Bool, true, false, not, cond, List, [], ◌∷◌, ◌++◌, All, AllPairs, Contains, Ok, Err, Result, IsOk, IsErr, OnOk, IsPermutation, map, length, get_or, count_by, filter, refl, sym, ap, subst, ◌∙◌, ⊎_elim, arith}
use Rattle.std.specs.List.{range_with_len}
use Rattle.std.proofs.lemmas.Bool.{cases_Bool}
use Rattle.std.proofs.lemmas.Bool.Decides.{nat_tests}
use Rattle.std.proofs.lemmas.List.{map-append, length-map}
use Rattle.std.proofs.lemmas.List.Elements.{All-nil, All-cons, All-head, All-tail, filter-append}
use Rattle.std.proofs.lemmas.List.FromFn.{length-range_with_len}
use Rattle.std.proofs.lemmas.List.Sums.{sum_by-cons, count_by-le-length, length-filter}
use Rattle.std.proofs.lemmas.List.Sorted.{IsPermutation-push_more, IsPermutation-map, length_permutation, sum_by-IsPermutation}
use Rattle.model.specs.Data.{JobData}
use Rattle.model.specs.Plans.{PlanData}
use Rattle.queue.specs.Orders.{IsFirst}
use Rattle.timetable.proofs.Pairs.{all_pairs_head, all_pairs_tail}
use Rattle.planner.specs.declared.waiting.Waiting.{Waiting}
use Rattle.planner.specs.Edges.{is_placed}
use Rattle.planner.specs.FillLaws.{ComesBefore}
use Rattle.planner.specs.Filling.{by_priority, unplaced_tasks}
use Rattle.planner.specs.Waits.{waits_before, waiting_by}
use Rattle.planner.specs.Shown.WaitingOrders.{waits_order}
use Rattle.planner.proofs.Priorities.{fill_takes_in_order}

-- what a push that is not refused ensures

pub ok_unless : {X E : Type 0} (r : Result X E) → (IsErr r → ⊥) → IsOk r
ok_unless (Ok x) fails = refl
ok_unless (Err e) fails = absurd (fails refl)

pub on_ok : {X E P : Type 0} (r : Result X E) (x : X) → r ≡ Ok x → OnOk r P → P
on_ok (Ok y) x is p = p
on_ok (Err e) x is p = cc is

-- tasks come into the queue by rising number

abbrev pub unplaced_below : PlanData → ℕ → List ℕ
unplaced_below P n = filter (λ t. not (is_placed P t)) (range_with_len 0 n)

numbers_more : (n a : ℕ) → range_with_len a (suc n) ≡ range_with_len a n ++ (a + n) ∷ []
numbers_more zero a = let here : a ≡ a + 0 = omega arith in ap (λ k. k ∷ []) here
numbers_more (suc n) a = let on : a + 1 + n ≡ a + suc n = omega arith in ap (λ ns. a ∷ ns) (numbers_more n (a + 1) ∙ ap (λ k. range_with_len (a + 1) n ++ k ∷ []) on)

below_more : (P : PlanData) (n : ℕ) (b : Bool) → is_placed P n ≡ b → unplaced_below P (n + 1) ≡ unplaced_below P n ++ cond b [] (n ∷ [])
below_more P n b at =
    let next : n + 1 ≡ suc n = omega arith in
    let zero_n : 0 + n ≡ n = omega arith in
    ap (λ k. filter (λ t. not (is_placed P t)) (range_with_len 0 k)) next
    ∙ ap (filter (λ t. not (is_placed P t))) (numbers_more n 0 ∙ ap (λ k. range_with_len 0 n ++ k ∷ []) zero_n)
    ∙ filter-append (λ t. not (is_placed P t)) (range_with_len 0 n) (n ∷ [])
    ∙ ap (λ ts. unplaced_below P n ++ ts) (one b at)
  where
    one : (b : Bool) → is_placed P n ≡ b → filter (λ t. not (is_placed P t)) (n ∷ []) ≡ cond b [] (n ∷ [])
    one true at = ap (λ p. cond (not p) (n ∷ []) []) at
    one false at = ap (λ p. cond (not p) (n ∷ []) []) at

append_nil : {X : Type 0} (xs : List X) → xs ++ [] ≡ xs
append_nil [] = refl
append_nil (x ∷ xs) = ap (λ ys. x ∷ ys) (append_nil xs)

module _ (priority : ℕ → ℕ) (P : PlanData) where
  -- what waits when the tasks below n were gone through
  abbrev pub Held : ℕ → List Waiting → Type 0
  Held n held = IsPermutation (map (waiting_by priority) (unplaced_below P n)) held

  pub held_placed : (n : ℕ) (held : List Waiting) → is_placed P n ≡ true → Held n held → Held (n + 1) held
  held_placed n held at h = subst (λ ts. IsPermutation (map (waiting_by priority) ts) held) (sym (below_more P n true at ∙ append_nil (unplaced_below P n))) h

  pub held_unplaced : (n : ℕ) (held more : List Waiting) (w : Waiting) → w ≡ waiting_by priority n → is_placed P n ≡ false → Held n held → IsPermutation (w ∷ held) more → Held (n + 1) more
  held_unplaced n held more w is at h pushed =
      let ends : map (waiting_by priority) (unplaced_below P (n + 1)) ≡ map (waiting_by priority) (unplaced_below P n) ++ waiting_by priority n ∷ [] = ap (map (waiting_by priority)) (below_more P n false at) ∙ map-append (waiting_by priority) (unplaced_below P n) (n ∷ []) in
      subst (λ ws. IsPermutation ws more) (sym ends) (IsPermutation-push_more _ held more (waiting_by priority n) h (subst (λ v. IsPermutation (v ∷ held) more) is pushed))

  -- no more wait than were gone through
  pub held_few : (n : ℕ) (held : List Waiting) → Held n held → length held ≤ n
  held_few n held h = omega (arith, length_permutation _ held h, length-map (unplaced_below P n) (waiting_by priority), length-filter (λ t. not (is_placed P t)) (range_with_len 0 n), count_by-le-length (λ t. not (is_placed P t)) (range_with_len 0 n), length-range_with_len 0 n)

-- tasks come out of the queue by priority

one_counted : {X : Type 0} (p : X → Bool) (x : X) (xs : List X) → count_by p (x ∷ xs) ≡ cond (p x) 1 0 + count_by p xs
one_counted p x xs = sum_by-cons (λ y. cond (p y) 1 0) x xs

none_counted : {X : Type 0} (p : X → Bool) (xs : List X) → All (λ x. p x ≡ false) xs → count_by p xs ≡ 0
none_counted p [] all = refl
none_counted p (x ∷ xs) all = one_counted p x xs ∙ ap (λ b. cond b 1 0 + count_by p xs) (All-head (λ y. p y ≡ false) x xs all) ∙ (let rest = none_counted p xs (All-tail (λ y. p y ≡ false) x xs all) in omega arith)

counted_none : {X : Type 0} (p : X → Bool) (xs : List X) (x : X) → count_by p xs ≡ 0 → Contains xs x → p x ≡ false
counted_none p xs x none there = ⊎_elim (λ holds. absurd (one p xs there.0 x none there.1 there.2 holds)) (λ fails. fails) (cases_Bool (p x))
  where
    one : {X : Type 0} (p : X → Bool) (xs : List X) (k : ℕ) (x : X) → count_by p xs ≡ 0 → k < length xs → get_or xs k x ≡ x → p x ≡ true → ⊥
    one p [] k x none within at holds = omega arith
    one p (y ∷ xs) zero x none within at holds = let here : cond {A = ℕ} (p y) 1 0 ≡ 1 = ap (λ z. cond {A = ℕ} (p z) 1 0) at ∙ ap (λ b. cond {A = ℕ} b 1 0) holds in omega (arith, one_counted p y xs)
    one p (y ∷ xs) (suc k) x none within at holds = one p xs k x (omega (arith, one_counted p y xs)) (omega arith) at holds

-- the queue holds ts, which stand in the order in which they are taken
pub record Waits (priority : ℕ → ℕ) (held : List Waiting) (ts : List ℕ) : Type 0 where
  pub counts : (p : Waiting → Bool) → count_by p held ≡ count_by p (map (waiting_by priority) ts)
  pub order : AllPairs (ComesBefore priority) ts

module _ (priority : ℕ → ℕ) where
  pub waits_begin : (J : JobData) (P : PlanData) (held : List Waiting) → IsPermutation (map (waiting_by priority) (unplaced_tasks J P)) held → Waits priority held (by_priority priority (unplaced_tasks J P))
  waits_begin J P held same =
      let taken = fill_takes_in_order priority J P in
      record {
        counts = λ p.
            sum_by-IsPermutation (λ w. cond (p w) 1 0) _ held same
            ∙ sym (sum_by-IsPermutation (λ w. cond (p w) 1 0) _ _ (IsPermutation-map (waiting_by priority) _ _ taken.tasks));
        order = taken.order;
      }

  all_counted : {X : Type 0} (xs : List X) → count_by (λ x. true) xs ≡ length xs
  all_counted [] = refl
  all_counted (x ∷ xs) = let rest = all_counted xs in one_counted (λ y. true) x xs ∙ omega arith

  waits_length : (held : List Waiting) (ts : List ℕ) → Waits priority held ts → length held ≡ length ts
  waits_length held ts w = sym (all_counted held) ∙ w.counts (λ x. true) ∙ all_counted (map (waiting_by priority) ts) ∙ length-map ts (waiting_by priority)

  pub waits_end : (held : List Waiting) (ts : List ℕ) → held ≡ [] → Waits priority held ts → ts ≡ []
  waits_end held [] none w = refl
  waits_end held (t ∷ ts) none w = absurd (omega (arith, waits_length held (t ∷ ts) w, ap length none))

  -- a later task does not go before t
  not_before : (t u : ℕ) → ComesBefore priority t u → waits_before (waiting_by priority u) (waiting_by priority t) ≡ false
  not_before t u before = ⊎_elim (λ less. grind (arith, nat_tests)) (λ same. let level = same.0 in let below = same.1 in grind (arith, nat_tests)) before

  not_itself : (t : ℕ) → waits_before (waiting_by priority t) (waiting_by priority t) ≡ false
  not_itself t = grind (arith, nat_tests)

  all_behind : (t : ℕ) (us : List ℕ) → All (ComesBefore priority t) us → All (λ w. waits_before w (waiting_by priority t) ≡ false) (map (waiting_by priority) us)
  all_behind t [] all = All-nil _
  all_behind t (u ∷ us) all = All-cons (λ w. waits_before w (waiting_by priority t) ≡ false) (waiting_by priority u) (map (waiting_by priority) us) (not_before t u (All-head (ComesBefore priority t) u us all)) (all_behind t us (All-tail (ComesBefore priority t) u us all))

  -- the first of the queue is the first task
  first_is : (held : List Waiting) (t : ℕ) (ts : List ℕ) (x : Waiting) → Waits priority held (t ∷ ts) → IsFirst waits_before held x → x ≡ waiting_by priority t
  first_is held t ts x w first =
      let v = waiting_by priority t in
      let none_first : count_by (λ y. waits_before y x) (map (waiting_by priority) (t ∷ ts)) ≡ 0 = sym (w.counts (λ y. waits_before y x)) ∙ none_counted (λ y. waits_before y x) held first.none_before in
      let none_behind : count_by (λ y. waits_before y v) held ≡ 0 = w.counts (λ y. waits_before y v) ∙ none_counted (λ y. waits_before y v) (map (waiting_by priority) (t ∷ ts)) (All-cons (λ y. waits_before y v ≡ false) v (map (waiting_by priority) ts) (not_itself t) (all_behind t ts (all_pairs_head (ComesBefore priority) t ts w.order))) in
      waits_order.alike x v (counted_none (λ y. waits_before y v) held x none_behind first.held) (counted_none (λ y. waits_before y x) (map (waiting_by priority) (t ∷ ts)) v none_first (0, omega arith, refl))

  -- what is left when the first was taken
  pub record Taken (held : List Waiting) (ts : List ℕ) (x : Waiting) (left : List Waiting) : Type 0 where
    pub after : List ℕ
    pub is : ts ≡ x.task ∷ after
    pub waits : Waits priority left after

  pub waits_next : (held left : List Waiting) (ts : List ℕ) (x : Waiting) → Waits priority held ts → IsFirst waits_before held x → IsPermutation held (x ∷ left) → Taken held ts x left
  waits_next held left [] x w first popped = absurd (omega (arith, waits_length held [] w, length_permutation held (x ∷ left) popped))
  waits_next held left (t ∷ ts) x w first popped =
      let is = first_is held t ts x w first in
      record {
        after = ts;
        is = ap (λ (v : Waiting). v.task ∷ ts) (sym is);
        waits = record {
          counts = λ p. let before = w.counts p in let taken = sum_by-IsPermutation (λ v. cond (p v) 1 0) held (x ∷ left) popped in let same : cond {A = ℕ} (p x) 1 0 ≡ cond {A = ℕ} (p (waiting_by priority t)) 1 0 = ap (λ v. cond {A = ℕ} (p v) 1 0) is in omega (arith, one_counted p x left, one_counted p (waiting_by priority t) (map (waiting_by priority) ts));
          order = all_pairs_tail (ComesBefore priority) t ts w.order;
        };
      }
