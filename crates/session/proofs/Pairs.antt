-- The list of all pairs, where the hops of one pair are written or taken.
use Rattle.std.proofs.Common.{◌≡◌, ◌≢◌, ℕ, zero, suc, ◌+◌, ◌*◌, ◌/◌, ◌%◌, ◌<◌, ◌≤◌, ◌&&◌, nat_lt, Bool, true, false, [], ◌∷◌, map, replicate, Some, None, Option, Vec, vec_items, slice_set, slice_index_or, if◌then◌else◌, ◌==◌, refl, sym, ap, ◌∙◌, add-zero, arith}
use Rattle.std.specs.Bool.{then_some}
use Rattle.std.specs.BTreeMap.{BTreeMap, IsEmpty, IsUnchanged, Updates, get, is_at}
use Rattle.std.specs.List.{range_with_len}
use Rattle.std.specs.Map.{lookup}
use Rattle.std.specs.Option.{option_map, option_or}
use Rattle.std.specs.Ordering.{is_eq}
use Rattle.std.proofs.lemmas.Bool.{and_from, cond-true, lt-ltb}
use Rattle.std.proofs.lemmas.Bool.Decides.{nat_tests}
use Rattle.std.proofs.lemmas.List.FromFn.{get_or-map-range_with_len}
use Rattle.std.proofs.lemmas.Nat.{div-mul-add, mod-mul-add, div-add-mod'}
use Rattle.model.specs.Refusals.{or_else}
use Rattle.routes.specs.declared.hop.Hop.{Hop}
use Rattle.session.specs.Pairs.{pair_cmp, hops_between, pairs_of}
use Rattle.session.specs.RouteRows.{row_between}
use Rattle.session.specs.Settings.{with_route}

-- two functions that are the same from the number a on
pub range_same : {A : Type 0} (f g : ℕ → A) (a n : ℕ) → ((k : ℕ) → a ≤ k → g k ≡ f k) → map g (range_with_len a n) ≡ map f (range_with_len a n)
range_same f g a zero same = refl
range_same f g a (suc n) same =
    ap (λ x. x ∷ map g (range_with_len (a + 1) n)) (same a (omega arith))
    ∙ ap (λ xs. f a ∷ xs) (range_same f g (a + 1) n (λ k more. same k (omega arith)))

-- two functions that differ at one number alone
range_set : {A : Type 0} (f g : ℕ → A) (a n i : ℕ) (x : A) → ((k : ℕ) → k ≢ a + i → g k ≡ f k) → g (a + i) ≡ x → map g (range_with_len a n) ≡ slice_set (map f (range_with_len a n)) i x
range_set f g a zero i x others here = refl
range_set f g a (suc n) zero x others here =
    ap (λ y. y ∷ map g (range_with_len (a + 1) n)) (ap g (sym (add-zero a)) ∙ here)
    ∙ ap (λ xs. x ∷ xs) (range_same f g (a + 1) n (λ k more. others k (λ e. omega arith)))
range_set f g a (suc n) (suc i) x others here =
    let along : a + 1 + i ≡ a + suc i = omega arith in
    ap (λ y. y ∷ map g (range_with_len (a + 1) n)) (others a (λ e. omega arith))
    ∙ ap (λ xs. f a ∷ xs) (range_set f g (a + 1) n i x (λ k no. others k (λ e. no (omega arith))) (ap g along ∙ here))

range_none : {A : Type 0} (f : ℕ → A) (x : A) (a n : ℕ) → ((k : ℕ) → f k ≡ x) → map f (range_with_len a n) ≡ replicate n x
range_none f x a zero same = refl
range_none f x a (suc n) same = ap (λ y. y ∷ map f (range_with_len (a + 1) n)) (same a) ∙ ap (λ xs. x ∷ xs) (range_none f x (a + 1) n same)

-- another pair is not equal
apart : (s t a b : ℕ) → (s ≡ a → t ≡ b → ⊥) → is_eq (pair_cmp (s, t) (a, b)) ≡ false
apart s t a b other = grind (arith, nat_tests)

row_of : (s t : ℕ) → t < 16 → (16 * s + t) / 16 ≡ s
row_of s t h = let place : 16 * s + t ≡ s * 16 + t = omega arith in ap (λ k. k / 16) place ∙ div-mul-add s 16 t h

column_of : (s t : ℕ) → t < 16 → (16 * s + t) % 16 ≡ t
column_of s t h = let place : 16 * s + t ≡ s * 16 + t = omega arith in ap (λ k. k % 16) place ∙ mod-mul-add s 16 t h

-- the pair of a place
at_place : {Y : Type 0} (m : BTreeMap (ℕ × ℕ) (Vec Hop Y)) (s t : ℕ) → t < 16 → hops_between m ((16 * s + t) / 16) ((16 * s + t) % 16) ≡ hops_between m s t
at_place m s t h = ap (λ a. hops_between m a ((16 * s + t) % 16)) (row_of s t h) ∙ ap (λ b. hops_between m s b) (column_of s t h)

-- no pair has hops
pub pairs_empty : {Y : Type 0} (m : BTreeMap (ℕ × ℕ) (Vec Hop Y)) → IsEmpty m → pairs_of m ≡ replicate 256 None
unfolding pairs_of
pairs_empty m h =
    range_none (λ k. hops_between m (k / 16) (k % 16)) None 0 256 (λ k. ap (λ es. option_map vec_items (lookup (λ q. is_at (pair_cmp (k / 16, k % 16)) q) es)) h)

pub pairs_unchanged : {Y : Type 0} (m n : BTreeMap (ℕ × ℕ) (Vec Hop Y)) → IsUnchanged m n → pairs_of n ≡ pairs_of m
unfolding pairs_of
pairs_unchanged m n h =
    range_same (λ k. hops_between m (k / 16) (k % 16)) (λ k. hops_between n (k / 16) (k % 16)) 0 256 (λ k more. ap (λ es. option_map vec_items (lookup (λ q. is_at (pair_cmp (k / 16, k % 16)) q) es)) h)

-- the hops of a pair stand at its place
pub pair_read : {Y : Type 0} (m : BTreeMap (ℕ × ℕ) (Vec Hop Y)) (s t : ℕ) → s < 16 → t < 16 → slice_index_or (pairs_of m) (16 * s + t) None ≡ hops_between m s t
unfolding pairs_of
pair_read m s t hs ht = get_or-map-range_with_len (λ k. hops_between m (k / 16) (k % 16)) 0 256 (16 * s + t) (16 * s + t) None (omega arith) (omega arith) ∙ at_place m s t ht

-- the hops of a pair are written or taken at its place
pub pair_updated : {Y : Type 0} (m n : BTreeMap (ℕ × ℕ) (Vec Hop Y)) (s t : ℕ) (hops : Option (Vec Hop Y)) → s < 16 → t < 16 → Updates pair_cmp m n (s, t) hops
    → pairs_of n ≡ slice_set (pairs_of m) (16 * s + t) (option_map vec_items hops)
unfolding pairs_of
pair_updated m n s t hops hs ht u =
    range_set (λ k. hops_between m (k / 16) (k % 16)) (λ k. hops_between n (k / 16) (k % 16)) 0 256 (16 * s + t) (option_map vec_items hops)
    (λ k other. ap (option_map vec_items) (u.2 (k / 16, k % 16) (apart s t (k / 16) (k % 16) (λ row column. other (omega (arith, div-add-mod' k 16, row, column))))))
    (let place : 0 + (16 * s + t) ≡ 16 * s + t = omega arith in ap (λ k. hops_between n (k / 16) (k % 16)) place ∙ at_place n s t ht ∙ ap (option_map vec_items) u.1)

pub pair_written : {Y : Type 0} (m n : BTreeMap (ℕ × ℕ) (Vec Hop Y)) (s t : ℕ) (hops : Vec Hop Y) → s < 16 → t < 16 → Updates pair_cmp m n (s, t) (Some hops) → pairs_of n ≡ with_route (pairs_of m) s t (vec_items hops)
pair_written m n s t hops hs ht u = let there = pair_updated m n s t (Some hops) hs ht u in grind (arith, nat_tests, there)

pub pair_taken : {Y : Type 0} (m n : BTreeMap (ℕ × ℕ) (Vec Hop Y)) (s t : ℕ) → s < 16 → t < 16 → Updates pair_cmp m n (s, t) None → pairs_of n ≡ (if nat_lt s 16 && nat_lt t 16 then slice_set (pairs_of m) (16 * s + t) None else pairs_of m)
pair_taken m n s t hs ht u = pair_updated m n s t None hs ht u ∙ sym (cond-true _ _ (pairs_of m) (and_from _ _ (lt-ltb s 16 hs) (lt-ltb t 16 ht)))

or_mapped : {Y : Type 0} (hops : Option (Vec Hop Y)) (b : Bool) (empty : Vec Hop Y) → vec_items empty ≡ [] → option_map vec_items (option_or hops (then_some b empty)) ≡ or_else (option_map vec_items hops) (if b then Some [] else None)
or_mapped (Some x) b empty h = refl
or_mapped None true empty h = ap (λ xs. Some xs) h
or_mapped None false empty h = refl

-- the hops of a pair, or else the empty route from a station to itself
pub row_is : {Y : Type 0} (m : BTreeMap (ℕ × ℕ) (Vec Hop Y)) (s t : ℕ) (empty : Vec Hop Y) (hops other row : Option (Vec Hop Y)) → s < 16 → t < 16 → vec_items empty ≡ [] → hops ≡ get pair_cmp m (s, t)
    → other ≡ then_some (s == t) empty → row ≡ option_or hops other → option_map vec_items row ≡ (if nat_lt s 16 && nat_lt t 16 then row_between (pairs_of m) s t else None)
row_is m s t empty hops other row hs ht none found given is =
    ap (option_map vec_items) (is ∙ ap (λ o. option_or hops o) given)
    ∙ or_mapped hops (s == t) empty none
    ∙ ap (λ o. or_else o (if s == t then Some [] else None)) (ap (option_map vec_items) found ∙ sym (pair_read m s t hs ht))
    ∙ sym (cond-true _ _ None (and_from _ _ (lt-ltb s 16 hs) (lt-ltb t 16 ht)))
