-- Heaps: a list whose first elements are in the order of a heap.
use Rattle.std.specs.Prelude.{◌≡◌, ℕ, ◌+◌, ◌*◌, ◌<◌, ◌≤◌, Bool, false, List, slice_index_or}

module _ {X : Type 0} (before : X → X → Bool) where
  -- among the first n elements, none stands before its parent, for each parent from `low` on;
  -- the children of the element at p stand at 2 p + 1 and 2 p + 2 (d is read past the end only)
  abbrev pub IsHeapFrom : ℕ → List X → ℕ → Type 0
  IsHeapFrom low xs n =
      (p k : ℕ) (d : X) → low ≤ p → p * 2 + 1 ≤ k → k ≤ p * 2 + 2 → k < n → before (slice_index_or xs k d) (slice_index_or xs p d) ≡ false

  -- the first n elements are a heap
  abbrev pub IsHeap : List X → ℕ → Type 0
  IsHeap xs n = IsHeapFrom 0 xs n

  -- c is the place of a child of the element at p, among the first n, and no child is before it
  pub record IsFirstChild (xs : List X) (p n c : ℕ) : Type 0 where
    pub is_left_or_right : (p * 2 + 1 ≤ c) × (c ≤ p * 2 + 2)
    pub within : c < n
    pub first : (k : ℕ) (d : X) → p * 2 + 1 ≤ k → k ≤ p * 2 + 2 → k < n → before (slice_index_or xs k d) (slice_index_or xs c d) ≡ false
