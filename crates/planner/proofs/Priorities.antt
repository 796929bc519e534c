-- Tasks are put by falling priority, the lowest number first among equals, and none is lost or added.
use Rattle.std.proofs.Common.{◌≡◌, ℕ, ◌<◌, ◌≤◌, Bool, true, false, not, List, [], ◌∷◌, All, AllPairs, IsPermutation, if◌then◌else◌, refl, inl, inr, ⊎_elim, arith}
use Rattle.std.specs.Bool.{nat_lt}
use Rattle.std.specs.List.{range_with_len}
use Rattle.std.proofs.lemmas.Bool.{cases_lt}
use Rattle.std.proofs.lemmas.Bool.Decides.{nat_tests}
use Rattle.std.proofs.lemmas.List.Elements.{All-nil, All-cons, All-head, All-tail}
use Rattle.std.proofs.lemmas.List.FromFn.{length-range_with_len, get_or-range_with_len}
use Rattle.std.proofs.lemmas.List.Kept.{AllPairs-cons, AllPairs-filter}
use Rattle.std.proofs.lemmas.List.Sorted.{IsPermutation-refl, IsPermutation-cons, IsPermutation-trans, IsPermutation-insert}
use Rattle.model.specs.Data.{task_count}
use Rattle.timetable.proofs.Pairs.{all_pairs_head, all_pairs_tail}
use Rattle.planner.specs.Edges.{is_placed}
use Rattle.planner.specs.FillLaws.{ComesBefore, FillTakesInOrder}
use Rattle.planner.specs.Filling.{put_in, by_priority, unplaced_tasks}

pairs_nil : {X : Type 0} (R : X → X → Type 0) → AllPairs R []
pairs_nil R i j d before within = absurd (omega arith)

-- the tasks that are not placed rise

range_rises : (n a : ℕ) → AllPairs (λ x y. x < y) (range_with_len a n)
range_rises n a i j d before within =
    let last : j < n = omega (arith, length-range_with_len a n) in
    omega (arith, get_or-range_with_len a n i d (omega arith), get_or-range_with_len a n j d last)

module _ (priority : ℕ → ℕ) where
  all_put_in : (Q : ℕ → Type 0) (t : ℕ) (us : List ℕ) → Q t → All Q us → All Q (put_in priority t us)
  all_put_in Q t [] q all = All-cons Q t [] q all
  all_put_in Q t (u ∷ us) q all = step (all_put_in Q t us q (All-tail Q u us all)) (nat_lt (priority t) (priority u))
    where
      step : All Q (put_in priority t us) → (b : Bool) → All Q (if b then u ∷ put_in priority t us else t ∷ u ∷ us)
      step rest true = All-cons Q u (put_in priority t us) (All-head Q u us all) rest
      step rest false = All-cons Q t (u ∷ us) q all

  all_by_priority : (Q : ℕ → Type 0) (ts : List ℕ) → All Q ts → All Q (by_priority priority ts)
  all_by_priority Q [] all = all
  all_by_priority Q (t ∷ ts) all = all_put_in Q t (by_priority priority ts) (All-head Q t ts all) (all_by_priority Q ts (All-tail Q t ts all))

  same_put_in : (t : ℕ) (us : List ℕ) → IsPermutation (t ∷ us) (put_in priority t us)
  same_put_in t [] = IsPermutation-refl _
  same_put_in t (u ∷ us) = step (same_put_in t us) (nat_lt (priority t) (priority u))
    where
      step : IsPermutation (t ∷ us) (put_in priority t us) → (b : Bool) → IsPermutation (t ∷ u ∷ us) (if b then u ∷ put_in priority t us else t ∷ u ∷ us)
      step rest true = IsPermutation-trans (t ∷ u ∷ us) (u ∷ t ∷ us) (u ∷ put_in priority t us) (IsPermutation-insert (u ∷ us) 1 t) (IsPermutation-cons u (t ∷ us) (put_in priority t us) rest)
      step rest false = IsPermutation-refl (t ∷ u ∷ us)

  same_by_priority : (ts : List ℕ) → IsPermutation ts (by_priority priority ts)
  same_by_priority [] = IsPermutation-refl _
  same_by_priority (t ∷ ts) = IsPermutation-trans _ (t ∷ by_priority priority ts) _ (IsPermutation-cons t _ _ (same_by_priority ts)) (same_put_in t (by_priority priority ts))

  before_all : (t u x : ℕ) → priority u ≤ priority t → t < x → ComesBefore priority u x → ComesBefore priority t x
  before_all t u x le below before =
      let no_more : priority x ≤ priority t = ⊎_elim (λ less. omega arith) (λ equal. omega (arith, equal.0)) before in
      ⊎_elim (λ less. inl less) (λ same. inr (omega arith, below)) (cases_lt (priority x) (priority t))

  order_put_in : (t : ℕ) (us : List ℕ) → All (λ u. t < u) us → AllPairs (ComesBefore priority) us → AllPairs (ComesBefore priority) (put_in priority t us)
  order_put_in t [] above each = AllPairs-cons (ComesBefore priority) t [] (All-nil _) each
  order_put_in t (u ∷ us) above each = step (order_put_in t us (All-tail (λ v. t < v) u us above) (all_pairs_tail (ComesBefore priority) u us each)) (nat_lt (priority t) (priority u)) refl
    where
      R : ℕ → ℕ → Type 0
      R = ComesBefore priority

      behind : All (R u) us
      behind = all_pairs_head R u us each

      low : priority u ≤ priority t → All (R t) (u ∷ us)
      low le =
          let first : t < u = All-head (λ v. t < v) u us above in
          All-cons (R t) u us (⊎_elim (λ less. inl less) (λ same. inr (omega arith, first)) (cases_lt (priority u) (priority t)))
          (λ k d within. before_all t u _ le (All-tail (λ v. t < v) u us above k d within) (behind k d within))

      step : AllPairs R (put_in priority t us) → (b : Bool) → nat_lt (priority t) (priority u) ≡ b → AllPairs R (if b then u ∷ put_in priority t us else t ∷ u ∷ us)
      step rest true e = AllPairs-cons R u (put_in priority t us) (all_put_in (R u) t us (inl (grind (arith, nat_tests))) behind) rest
      step rest false e = AllPairs-cons R t (u ∷ us) (low (grind (arith, nat_tests))) each

  order_by_priority : (ts : List ℕ) → AllPairs (λ x y. x < y) ts → AllPairs (ComesBefore priority) (by_priority priority ts)
  order_by_priority [] each = pairs_nil (ComesBefore priority)
  order_by_priority (t ∷ ts) each =
      order_put_in t (by_priority priority ts) (all_by_priority (λ u. t < u) ts (all_pairs_head (λ x y. x < y) t ts each)) (order_by_priority ts (all_pairs_tail (λ x y. x < y) t ts each))

pub fill_takes_in_order : FillTakesInOrder
fill_takes_in_order priority J P = record {
  tasks = same_by_priority priority (unplaced_tasks J P);
  order = order_by_priority priority (unplaced_tasks J P) (AllPairs-filter (λ x y. x < y) (λ t. not (is_placed P t)) (range_with_len 0 (task_count J)) (range_rises (task_count J) 0));
}
