-- Which element is the first of a list.
use Rattle.std.proofs.Common.{◌≡◌, Bool, false, List}
use Rattle.std.specs.List.Sorted.{IsPermutation}
use Rattle.std.proofs.lemmas.List.Sorted.{All-permutation, Contains-permutation}
use Rattle.queue.specs.Orders.{IsStrictTotalOrder, IsFirst}

-- the first of a list is the first of it in any other order
pub is_first_permutation : {X : Type 0} (before : X → X → Bool) (xs ys : List X) (x : X) → IsPermutation xs ys → IsFirst before xs x → IsFirst before ys x
is_first_permutation before xs ys x p f = record {
  held = Contains-permutation xs ys x p f.held;
  none_before = All-permutation (λ y. before y x ≡ false) xs ys p f.none_before;
}

-- a list has one first element
pub is_first_unique : {X : Type 0} (before : X → X → Bool) → IsStrictTotalOrder before → (xs : List X) (x y : X) → IsFirst before xs x → IsFirst before xs y → x ≡ y
is_first_unique before o xs x y f g =
    o.alike x y (rw f.held.2 at (g.none_before f.held.0 x f.held.1)) (rw g.held.2 at (f.none_before g.held.0 y g.held.1))
