-- What each step of a sift keeps, over the test `before` of an order.
use Rattle.std.proofs.Common.{◌≡◌, ◌≢◌, ℕ, zero, suc, ◌+◌, ◌-◌, ◌*◌, ◌/◌, ◌<◌, ◌≤◌, Bool, true, false, List, length, get_or, take, Option, Some, None, IfSome, sym, arith}
use Rattle.std.specs.List.{SwappedAt, slice_get}
use Rattle.std.proofs.lemmas.List.{get_or-take, length-take}
use Rattle.std.proofs.lemmas.List.Elements.{All-from_get_or}
use Rattle.std.proofs.lemmas.Option.{get_or_from_slice_get, slice_get_within}
use Rattle.queue.specs.Heaps.{IsHeap, IsFirstChild}
use Rattle.queue.specs.Orders.{IsStrictTotalOrder, IsFirst}

module _ {X : Type 0} (before : X → X → Bool) where
  -- a heap but for the element at i, which may be before its parent
  pub record IsRising (xs : List X) (i n : ℕ) : Type 0 where
    pub elsewhere : (p k : ℕ) (d : X) → p * 2 + 1 ≤ k → k ≤ p * 2 + 2 → k < n → k ≢ i → before (get_or xs k d) (get_or xs p d) ≡ false
    pub across : (p k : ℕ) (d : X) → p * 2 + 1 ≤ i → i ≤ p * 2 + 2 → i * 2 + 1 ≤ k → k ≤ i * 2 + 2 → k < n → before (get_or xs k d) (get_or xs p d) ≡ false

  -- the element at i went up to q, its parent, which it was before
  pub rise_steps : (o : IsStrictTotalOrder before) (xs ys : List X) (i q n : ℕ) → q * 2 + 1 ≤ i → i ≤ q * 2 + 2 → i < n → SwappedAt xs ys q i
      → ((d : X) → before (get_or xs i d) (get_or xs q d) ≡ true) → IsRising xs i n → IsRising ys q n
  rise_steps o xs ys i q n u v w s t h = record {
    elsewhere = λ p k d a b c e. grind (arith, o.asymmetric, o.negatively_transitive, t d, s.0 d, s.1 d, s.2 k d, s.2 p d, h.elsewhere p k d, h.elsewhere q k d, h.across q k d);
    across = λ p k d a b c e f. grind (arith, o.asymmetric, o.negatively_transitive, t d, s.0 d, s.1 d, s.2 k d, s.2 p d, h.elsewhere p q d, h.elsewhere q k d, h.across q k d);
  }

  -- a heap but for the element at i, which a child of it may be before
  pub record IsSinking (xs : List X) (i n : ℕ) : Type 0 where
    pub elsewhere : (p k : ℕ) (d : X) → p * 2 + 1 ≤ k → k ≤ p * 2 + 2 → k < n → p ≢ i → before (get_or xs k d) (get_or xs p d) ≡ false
    pub across : (p k : ℕ) (d : X) → p * 2 + 1 ≤ i → i ≤ p * 2 + 2 → i * 2 + 1 ≤ k → k ≤ i * 2 + 2 → k < n → before (get_or xs k d) (get_or xs p d) ≡ false

  -- the element at i went down to c, its first child, which was before it
  pub sink_steps : (o : IsStrictTotalOrder before) (xs ys : List X) (i c n : ℕ) → IsFirstChild before xs i n c → SwappedAt xs ys i c
      → ((d : X) → before (get_or xs c d) (get_or xs i d) ≡ true) → IsSinking xs i n → IsSinking ys c n
  sink_steps o xs ys i c n f s t h = record {
    elsewhere = λ p k d a b e g. grind (arith, o.asymmetric, t d, f.first k d, s.0 d, s.1 d, s.2 k d, s.2 p d, h.elsewhere p k d, h.across p c d);
    across = λ p k d a b e g m. grind (arith, s.0 d, s.2 k d, h.elsewhere c k d);
  }

  -- no element of a heap is before the one at 0
  pub none_before_top : (o : IsStrictTotalOrder before) (xs : List X) (n : ℕ) (d : X) → IsHeap before xs n → (bound k : ℕ) → k ≤ bound → k < n → before (get_or xs k d) (get_or xs 0 d) ≡ false
  none_before_top o xs n d h zero k a b = grind (arith, o.asymmetric)
  none_before_top o xs n d h (suc bound) k a b = grind (arith, o.asymmetric, o.negatively_transitive, h ((k - 1) / 2) k d, none_before_top o xs n d h bound ((k - 1) / 2))

  -- the first of a heap is the one at 0
  pub is_first_top : (o : IsStrictTotalOrder before) (xs : List X) (x : X) → 0 < length xs → x ≡ get_or xs 0 x → IsHeap before xs (length xs) → IsFirst before xs x
  is_first_top o xs x z e h = record {
    held = (0, z, sym e);
    none_before = All-from_get_or (λ y. before y x ≡ false) xs x (λ k p. grind (arith, none_before_top o xs (length xs) x h k k));
  }

  pub is_heap_take : (xs : List X) (n : ℕ) → n ≤ length xs → IsHeap before xs n → IsHeap before (take n xs) (length (take n xs))
  is_heap_take xs n l h = λ p k d a b e f. let long = length-take n xs in grind (arith, h p k d, get_or-take n xs k d, get_or-take n xs p d)

  pub is_first_if_some : (o : IsStrictTotalOrder before) (xs : List X) (n : ℕ) (r : Option X) → n ≤ length xs → r ≡ slice_get (take n xs) 0 → IsHeap before xs n → IfSome r (IsFirst before (take n xs))
  is_first_if_some o xs n None l e h = tt
  is_first_if_some o xs n (Some x) l e h =
      is_first_top o (take n xs) x (slice_get_within (take n xs) 0 x (sym e)) (sym (get_or_from_slice_get (take n xs) 0 x x (sym e))) (is_heap_take xs n l h)
