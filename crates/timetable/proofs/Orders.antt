-- What holds of the elements of a list, or of each two of them, when one is put at a place or leaves.
use Rattle.std.proofs.Common.{◌≡◌, ℕ, ◌+◌, ◌-◌, ◌<◌, ◌≤◌, Bool, cond, ◌⊎◌, List, length, get_or, count_by, All, AllPairs, Some, sym, ap, ◌∙◌, inl, inr, ⊎_elim, arith}
use Rattle.std.specs.List.{slice_get, insert, remove}
use Rattle.std.proofs.lemmas.Bool.{cases_lt, cases_eq}
use Rattle.std.proofs.lemmas.List.Sums.{sum_by-remove}
use Rattle.std.proofs.lemmas.Option.{get_or_from_slice_get, slice_get_within}
use Rattle.std.proofs.lemmas.List.Edits.{length-insert, get_or-insert_at, get_or-insert_below, get_or-insert_above, length-remove, get_or-remove_below, get_or-remove_above}

-- an element that is put at a place

module _ {X : Type 0} (xs : List X) (n : ℕ) (y : X) (within : n ≤ length xs) where
  -- an element of the new list stood below that place, is the new one, or stood one place lower
  inserted : (k : ℕ) (d : X)
      → ((k < n) × (get_or (insert xs n y) k d ≡ get_or xs k d)) ⊎ (((k ≡ n) × (get_or (insert xs n y) k d ≡ y)) ⊎ ((n < k) × (get_or (insert xs n y) k d ≡ get_or xs (k - 1) d)))
  inserted k d =
      ⊎_elim
      (λ below. inl (below, get_or-insert_below xs n y d k below within))
      (λ not_below. ⊎_elim
      (λ at. inr (inl (at, ap (λ j. get_or (insert xs n y) j d) at ∙ get_or-insert_at xs n y d within)))
      (λ not_at. let back : k ≡ k - 1 + 1 = omega arith in inr (inr (omega arith, ap (λ j. get_or (insert xs n y) j d) back ∙ get_or-insert_above xs n y d (k - 1) (omega arith) within)))
      (cases_eq k n))
      (cases_lt k n)

  pub all_insert : (P : X → Type 0) → All P xs → P y → All P (insert xs n y)
  all_insert P all new k d inside =
      let long = length-insert xs n y within in
      ⊎_elim
      (λ below. rw below.1 (all k d (omega (arith, below.0))))
      (⊎_elim (λ at. rw at.1 new) (λ above. rw above.1 (all (k - 1) d (omega (arith, above.0)))))
      (inserted k d)

  pub all_pairs_insert : (R : X → X → Type 0) → AllPairs R xs → ((k : ℕ) (d : X) → k < n → R (get_or xs k d) y) → ((k : ℕ) (d : X) → n ≤ k → k < length xs → R y (get_or xs k d)) → AllPairs R (insert xs n y)
  all_pairs_insert R each low high i j d before inside =
      let long = length-insert xs n y within in
      ⊎_elim
      (λ jb. ⊎_elim
      (λ ib. rw (ib.1, jb.1) (each i j d before (omega (arith, jb.0))))
      (⊎_elim (λ ia. absurd (omega (arith, ia.0, jb.0))) (λ iu. absurd (omega (arith, iu.0, jb.0))))
      (inserted i d))
      (⊎_elim
      (λ ja. ⊎_elim
      (λ ib. rw (ib.1, ja.1) (low i d ib.0))
      (⊎_elim (λ ia. absurd (omega (arith, ia.0, ja.0))) (λ iu. absurd (omega (arith, iu.0, ja.0))))
      (inserted i d))
      (λ ju. ⊎_elim
      (λ ib. rw (ib.1, ju.1) (each i (j - 1) d (omega (arith, ib.0, ju.0)) (omega (arith, ju.0))))
      (⊎_elim
      (λ ia. rw (ia.1, ju.1) (high (j - 1) d (omega (arith, ju.0)) (omega (arith, ju.0))))
      (λ iu. rw (iu.1, ju.1) (each (i - 1) (j - 1) d (omega (arith, iu.0, ju.0)) (omega (arith, ju.0)))))
      (inserted i d)))
      (inserted j d)

-- an element that leaves

pub all_remove : {X : Type 0} (P : X → Type 0) (xs : List X) (n : ℕ) → n < length xs → All P xs → All P (remove xs n)
all_remove P xs n within all k d inside =
    let short = length-remove xs n within in
    ⊎_elim
    (λ below. rw (get_or-remove_below xs n d k below within) (all k d (omega arith)))
    (λ above. rw (get_or-remove_above xs n d k above within) (all (k + 1) d (omega arith)))
    (cases_lt k n)

-- what is counted without a booking that is taken out
pub count_by_taken : {X : Type 0} (p : X → Bool) (xs ys : List X) (i : ℕ) (x : X) → slice_get xs i ≡ Some x → ys ≡ remove xs i → count_by p ys + cond (p x) 1 0 ≡ count_by p xs
count_by_taken {X} p xs ys i x at left =
    let f : X → ℕ = λ y. cond (p y) 1 0 in
    ap (λ zs. count_by p zs + f x) left
    ∙ ap (λ y. count_by p (remove xs i) + f y) (sym (get_or_from_slice_get xs i x x at))
    ∙ sum_by-remove f xs i x (slice_get_within xs i x at)
