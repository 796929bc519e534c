-- Rows of routes that are moved out of a list one by one, and put in order into another.
use Rattle.std.proofs.Common.{◌≡◌, ℕ, ◌+◌, ◌*◌, ◌<◌, ◌≤◌, ◌&&◌, nat_lt, List, [], ◌∷◌, ◌++◌, map, Some, None, vec_items, Option, Vec, slice_set, slice_index_or, if◌then◌else◌, ◌==◌, sym, ap, ◌∙◌, append_assoc, arith}
use Rattle.std.specs.Option.{option_map}
use Rattle.std.specs.List.{flat_map, range_with_len}
use Rattle.std.proofs.lemmas.List.{map-append, get_or-set_other}
use Rattle.std.proofs.lemmas.List.FromFn.{map-range_with_len_more}
use Rattle.std.proofs.lemmas.Bool.{and_from, cond-true, lt-ltb}
use Rattle.model.specs.Refusals.{or_else}
use Rattle.routes.proofs.Offered.{flat_map_range_more}
use Rattle.routes.specs.Tables.{rows_of}
use Rattle.routes.specs.declared.hop.Hop.{Hop}
use Rattle.session.specs.RouteRows.{SameFrom, row_between}
use Rattle.session.proofs.Pairs.{range_same}

-- between two of the 16 stations the first of two is meant
pub chosen : {A : Type 0} (s t : ℕ) (x a b : A) → s < 16 → t < 16 → x ≡ (if nat_lt s 16 && nat_lt t 16 then a else b) → x ≡ a
chosen s t x a b known there is = is ∙ cond-true _ a b (and_from _ _ (lt-ltb s 16 known) (lt-ltb t 16 there))

-- what is the same from place i on is so from a later place on, once the row at i is taken
pub same_past : (xs ys zs : List (Option (List Hop))) (i j : ℕ) → SameFrom i xs ys → zs ≡ slice_set ys i None → i < j → SameFrom j xs zs
same_past xs ys zs i j p taken later = record {
  same = λ k more. ap (λ rows. slice_index_or rows k None) taken ∙ get_or-set_other ys i k None None (omega arith) ∙ p.same k (omega arith);
}

-- the row of a pair is the one that the first list has, if its place is among the same
pub same_row : (xs ys : List (Option (List Hop))) (n s t : ℕ) → SameFrom n xs ys → n ≤ 16 * s + t → row_between ys s t ≡ row_between xs s t
same_row xs ys n s t p there = ap (λ o. or_else o (if s == t then Some [] else None)) (p.same (16 * s + t) there)

pub row_pushed : {Y : Type 0} (rows more : List (Option (Vec Hop Y))) (row : Option (Vec Hop Y)) → more ≡ rows ++ row ∷ [] → rows_of more ≡ rows_of rows ++ option_map vec_items row ∷ []
row_pushed rows more row h = ap rows_of h ∙ map-append (option_map vec_items) rows (row ∷ [])

-- the rows from s, one goal more
pub one_goal_more : (base rows more xs ys : List (Option (List Hop))) (row : Option (List Hop)) (s t : ℕ) → rows ≡ base ++ map (row_between xs s) (range_with_len 0 t) → SameFrom (16 * s + t) xs ys
    → row ≡ row_between ys s t → more ≡ rows ++ row ∷ [] → more ≡ base ++ map (row_between xs s) (range_with_len 0 (t + 1))
one_goal_more base rows more xs ys row s t so_far same is pushed =
    let here : row ≡ row_between xs s t = is ∙ same_row xs ys (16 * s + t) s t same (omega arith) in
    pushed ∙ ap (λ rs. rs ++ row ∷ []) so_far ∙ append_assoc base (map (row_between xs s) (range_with_len 0 t)) (row ∷ [])
    ∙ ap (λ r. base ++ (map (row_between xs s) (range_with_len 0 t) ++ r ∷ [])) here
    ∙ ap (λ rs. base ++ rs) (sym (map-range_with_len_more (row_between xs s) 0 t t (omega arith)))

-- one origin more
pub one_origin_more : (rows more xs ys : List (Option (List Hop))) (s n : ℕ) → rows ≡ flat_map (λ u. map (row_between xs u) (range_with_len 0 n)) (range_with_len 0 s) → SameFrom (16 * s) xs ys
    → more ≡ rows ++ map (row_between ys s) (range_with_len 0 n) → more ≡ flat_map (λ u. map (row_between xs u) (range_with_len 0 n)) (range_with_len 0 (s + 1))
one_origin_more rows more xs ys s n so_far same pushed =
    let rows_from : ℕ → List (Option (List Hop)) = λ u. map (row_between xs u) (range_with_len 0 n) in
    pushed ∙ ap (λ rs. rs ++ map (row_between ys s) (range_with_len 0 n)) so_far
    ∙ ap (λ rs. flat_map rows_from (range_with_len 0 s) ++ rs) (range_same (row_between xs s) (row_between ys s) 0 n (λ t _. same_row xs ys (16 * s) s t same (omega arith)))
    ∙ sym (flat_map_range_more rows_from s)

-- the same from an earlier place and from a later one
pub same_later : (xs ys zs : List (Option (List Hop))) (m n k : ℕ) → SameFrom m xs ys → SameFrom n ys zs → m ≤ k → n ≤ k → SameFrom k xs zs
same_later xs ys zs m n k p q hm hn = record { same = λ i more. q.same i (omega arith) ∙ p.same i (omega arith) }
