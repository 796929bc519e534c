-- The first n elements of a list, up to order.
use Rattle.std.proofs.Common.{◌≡◌, ℕ, ◌+◌, ◌-◌, ◌<◌, List, [], ◌∷◌, ◌++◌, length, take, get_or, set, sym, subst, arith}
use Rattle.std.specs.List.{SwappedAt}
use Rattle.std.specs.List.Sorted.{IsPermutation}
use Rattle.std.proofs.lemmas.List.{length_push, length-take, take_all, take_at, take_more, take_more_set}
use Rattle.std.proofs.lemmas.List.Sorted.{length_permutation, IsPermutation-sym, IsPermutation-trans, IsPermutation-cons, IsPermutation-to_front}

-- the first n and x, where x was written after them and those n + 1 came into another order
pub is_permutation_pushed : {X : Type 0} (xs ys rest : List X) (n : ℕ) (x : X) → n < length xs → IsPermutation (take (n + 1) (set xs n x)) ys → IsPermutation (x ∷ take n xs) (take (n + 1) (ys ++ rest))
is_permutation_pushed xs ys rest n x l p =
    let front : take (n + 1) (set xs n x) ≡ take n xs ++ x ∷ [] = take_more_set xs n x l in
    let moved : IsPermutation (take n xs ++ x ∷ []) ys = rw front at p in
    let long : length ys ≡ n + 1 = grind (arith, length_permutation _ _ moved, length_push (take n xs) x, length-take n xs) in
    rw (take_at ys rest (n + 1) long) (IsPermutation-trans _ (take n xs ++ x ∷ []) _ (IsPermutation-sym _ _ (IsPermutation-to_front (take n xs) x)) moved)

-- x stood first, was exchanged with the last one and left out, and the others came into another order
pub is_permutation_popped : {X : Type 0} (xs ys zs rest : List X) (x : X) → 0 < length xs → length ys ≡ length xs → x ≡ get_or xs 0 x → SwappedAt xs ys 0 (length xs - 1) → IsPermutation xs ys → IsPermutation (take (length xs - 1) ys) zs
    → IsPermutation xs (x ∷ take (length xs - 1) (zs ++ rest))
is_permutation_popped {X} xs ys zs rest x z len is s moved p =
    let n = length xs - 1 in
    let last : ys ≡ take n ys ++ x ∷ [] = grind (arith, take_more ys n x, take_all (n + 1) ys, s.1 x) in
    let front : IsPermutation ys (x ∷ take n ys) = subst (λ (l : List X). IsPermutation l (x ∷ take n ys)) (sym last) (IsPermutation-to_front (take n ys) x) in
    let long : length zs ≡ n = grind (arith, length_permutation _ _ p, length-take n ys) in
    rw (take_at zs rest n long) (IsPermutation-trans _ ys _ moved (IsPermutation-trans _ (x ∷ take n ys) _ front (IsPermutation-cons x _ _ p)))
