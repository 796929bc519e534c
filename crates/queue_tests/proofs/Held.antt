-- A queue that holds what a list has, and the first of it.
use Rattle.std.proofs.Common.{◌≡◌, ℕ, ◌+◌, ◌<◌, ◌≤◌, Bool, List, [], ◌∷◌, ◌++◌, length, take, get_or, Option, Some, None, IsNone, IfSome, MatchOption, ◌↔◌, refl, ap, arith}
use Rattle.std.specs.List.Sorted.{IsPermutation}
use Rattle.std.proofs.lemmas.List.{take_more, take_all, length-take}
use Rattle.std.proofs.lemmas.List.Sorted.{IsPermutation-sym, IsPermutation-push_more, length_permutation}
use Rattle.queue.specs.Orders.{IsFirst}
use Rattle.queue.proofs.Firsts.{is_first_permutation}

-- one more of the list was pushed
pub held_more : {X : Type 0} (xs held held' : List X) (i : ℕ) (x d : X) → i < length xs → x ≡ get_or xs i d → IsPermutation (take i xs) held → IsPermutation (x ∷ held) held' → IsPermutation (take (i + 1) xs) held'
held_more xs held held' i x d l e h p = let next : take (i + 1) xs ≡ take i xs ++ x ∷ [] = grind (arith, take_more xs i d) in rw next (IsPermutation-push_more _ _ _ x h p)

-- r is what a pop gives of a queue that holds the whole list
pub first_of_held : {X : Type 0} (before : X → X → Bool) (xs held : List X) (i : ℕ) (r : Option X) → length xs ≤ i → IsPermutation (take i xs) held → IfSome r (IsFirst before held) → (IsNone r ↔ (held ≡ []))
    → MatchOption r (xs ≡ []) (IsFirst before xs)
first_of_held before xs held i (Some x) l p f e = rw take_all at (is_first_permutation before held (take i xs) x (IsPermutation-sym _ _ p) f)
first_of_held before [] held i None l p f e = refl
first_of_held before (x ∷ xs) held i None l p f e =
    let none : length held ≡ 0 = ap length (e.0 refl) in absurd (omega (arith, length_permutation _ held p, length-take i (x ∷ xs)))
