-- What holds of each two elements of a list holds of each two of a part of it, and of each two in another order.
use Rattle.std.proofs.Common.{◌≡◌, ℕ, zero, suc, ◌<◌, ◌≢◌, cond, List, [], ◌∷◌, length, get_or, take, All, AllPairs, IsPermutation, ◌==◌, sym, refl, ap, subst, ◌∙◌, ⊎_elim, arith}
use Rattle.std.specs.List.{swap}
use Rattle.std.proofs.lemmas.Bool.{cases_eq, cases_lt}
use Rattle.std.proofs.lemmas.Bool.Decides.{nat_tests}
use Rattle.std.proofs.lemmas.List.Edits.{length-swap, swapped_from_swap}
use Rattle.std.proofs.lemmas.List.Elements.{All-cons, All-head, All-tail}
use Rattle.std.proofs.lemmas.List.Kept.{AllPairs-cons}
use Rattle.std.proofs.lemmas.List.Sorted.{IsPermutation-keeps}
use Rattle.timetable.specs.Parts.{IsPart, nothing, kept, left_out}

-- parts

pub part_none : {X : Type 0} (xs : List X) → IsPart [] xs
part_none [] = nothing
part_none (x ∷ xs) = left_out (part_none xs)

pub part_take : {X : Type 0} (n : ℕ) (xs : List X) → IsPart (take n xs) xs
part_take zero xs = part_none xs
part_take (suc n) [] = nothing
part_take (suc n) (x ∷ xs) = kept (part_take n xs)

pub all_part : {X : Type 0} (P : X → Type 0) {xs ys : List X} → IsPart xs ys → All P ys → All P xs
all_part P nothing all = all
all_part P (kept {x} {xs} {ys} part) all = All-cons P x xs (All-head P x ys all) (all_part P part (All-tail P x ys all))
all_part P (left_out {y} {xs} {ys} part) all = all_part P part (All-tail P y ys all)

pub all_pairs_head : {X : Type 0} (R : X → X → Type 0) (x : X) (xs : List X) → AllPairs R (x ∷ xs) → All (R x) xs
all_pairs_head R x xs each = λ k d within. each 0 (suc k) d (omega arith) (omega arith)

pub all_pairs_tail : {X : Type 0} (R : X → X → Type 0) (x : X) (xs : List X) → AllPairs R (x ∷ xs) → AllPairs R xs
all_pairs_tail R x xs each = λ i j d before within. each (suc i) (suc j) d (omega arith) (omega arith)

pub all_pairs_part : {X : Type 0} (R : X → X → Type 0) {xs ys : List X} → IsPart xs ys → AllPairs R ys → AllPairs R xs
all_pairs_part R nothing each = each
all_pairs_part R (kept {x} {xs} {ys} part) each =
    AllPairs-cons R x xs (all_part (R x) part (all_pairs_head R x ys each)) (all_pairs_part R part (all_pairs_tail R x ys each))
all_pairs_part R (left_out {y} {xs} {ys} part) each = all_pairs_part R part (all_pairs_tail R y ys each)

-- another order

-- where the element at m stood before a and b were exchanged
abbrev exchanged : ℕ → ℕ → ℕ → ℕ
exchanged a b m = cond (m == a) b (cond (m == b) a m)

exchanged_apart : (a b m n : ℕ) → m ≢ n → exchanged a b m ≢ exchanged a b n
exchanged_apart a b m n apart = grind (arith, nat_tests)

exchanged_within : (a b m n : ℕ) → a < n → b < n → m < n → exchanged a b m < n
exchanged_within a b m n a_in b_in m_in = grind (arith, nat_tests)

get_or_exchanged : {X : Type 0} (xs : List X) (a b m : ℕ) (d : X) → a < length xs → b < length xs → get_or (swap xs a b) m d ≡ get_or xs (exchanged a b m) d
get_or_exchanged xs a b m d a_in b_in =
    let moved = swapped_from_swap xs (swap xs a b) a b d a_in b_in refl in
    ⊎_elim
    (λ at_a. let here : exchanged a b m ≡ b = grind (arith, nat_tests) in ap (λ k. get_or (swap xs a b) k d) at_a ∙ moved.0 ∙ ap (λ k. get_or xs k d) (sym here))
    (λ not_a.
    ⊎_elim
    (λ at_b. let here : exchanged a b m ≡ a = grind (arith, nat_tests) in ap (λ k. get_or (swap xs a b) k d) at_b ∙ moved.1 ∙ ap (λ k. get_or xs k d) (sym here))
    (λ not_b. let here : exchanged a b m ≡ m = grind (arith, nat_tests) in moved.2 m not_a not_b ∙ ap (λ k. get_or xs k d) (sym here))
    (cases_eq m b))
    (cases_eq m a)

-- each two at different places are so related, if the order of the two does not matter
any_two : {X : Type 0} (R : X → X → Type 0) → ((x y : X) → R x y → R y x) → (xs : List X) (i j : ℕ) (d : X) → AllPairs R xs → i ≢ j → i < length xs → j < length xs → R (get_or xs i d) (get_or xs j d)
any_two R turns xs i j d each apart i_in j_in =
    ⊎_elim (λ before. each i j d before j_in)
    (λ no_before. turns _ _ (each j i d (omega arith) i_in))
    (cases_lt i j)

all_pairs_swap : {X : Type 0} (R : X → X → Type 0) → ((x y : X) → R x y → R y x) → (xs : List X) (a b : ℕ) → a < length xs → b < length xs → AllPairs R xs → AllPairs R (swap xs a b)
all_pairs_swap {X} R turns xs a b a_in b_in each =
    λ i j d before within.
    let long = length-swap xs a b in
    let n = length xs in
    let apart = exchanged_apart a b i j (omega arith) in
    let here = any_two R turns xs (exchanged a b i) (exchanged a b j) d each apart (exchanged_within a b i n a_in b_in (omega arith)) (exchanged_within a b j n a_in b_in (omega arith)) in
    let first : X → Type 0 = λ x. R x (get_or (swap xs a b) j d) in
    let second : X → Type 0 = λ y. R (get_or xs (exchanged a b i) d) y in
    subst first (sym (get_or_exchanged xs a b i d a_in b_in)) (subst second (sym (get_or_exchanged xs a b j d a_in b_in)) here)

pub all_pairs_permutation : {X : Type 0} (R : X → X → Type 0) → ((x y : X) → R x y → R y x) → (xs ys : List X) → IsPermutation xs ys → AllPairs R xs → AllPairs R ys
all_pairs_permutation R turns xs ys moved each = IsPermutation-keeps xs (AllPairs R) each (all_pairs_swap R turns) ys moved
