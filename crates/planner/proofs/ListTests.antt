-- Tests of every element of a list, of those from a place on, and of steps and bookings, read and passed element by element.
use Rattle.std.proofs.Common.{◌≡◌, ℕ, zero, suc, ◌+◌, ◌<◌, Bool, true, false, not, List, [], ◌∷◌, drop, Some, None, ◌==◌, refl, sym, ap, subst, ◌∙◌, ⊎_elim, arith}
use Rattle.std.specs.List.{slice_get, list_all, enumerate_from}
use Rattle.std.proofs.lemmas.Bool.{and_parts, and_from, or_cases, or_left, or_right, cases_Bool, both_ways, not_from_false, eqb-true, eq-eqb}
use Rattle.model.specs.declared.booking.Booking.{Booking}
use Rattle.model.specs.Bookings.{is_same}
use Rattle.timetable.proofs.Counts.{same_booking, booking_same}
use Rattle.planner.specs.Order.{is_among, all_differ, are_same}

pub some_same : {X : Type 0} (x y : X) → Some x ≡ Some y → x ≡ y
some_same x y e = cc e

pub none≢some : {X : Type 0} (x : X) → None ≡ Some x → ⊥
none≢some x e = cc e

-- every element

pub all_read : {X : Type 0} (p : X → Bool) (xs : List X) → list_all p xs ≡ true → (i : ℕ) (x : X) → slice_get xs i ≡ Some x → p x ≡ true
all_read p [] all i x at = absurd (none≢some x at)
all_read p (y ∷ xs) all zero x at = subst (λ z. p z ≡ true) (some_same y x at) (and_parts (p y) (list_all p xs) all).0
all_read p (y ∷ xs) all (suc i) x at = all_read p xs (and_parts (p y) (list_all p xs) all).1 i x at

pub all_pass : {X : Type 0} (p : X → Bool) (xs : List X) → ((i : ℕ) (x : X) → slice_get xs i ≡ Some x → p x ≡ true) → list_all p xs ≡ true
all_pass p [] each = refl
all_pass p (y ∷ xs) each = and_from (p y) (list_all p xs) (each 0 y refl) (all_pass p xs (λ i. each (suc i)))

-- every element with its number

numbered_read : {X : Type 0} (p : ℕ × X → Bool) (n : ℕ) (xs : List X) → list_all p (enumerate_from n xs) ≡ true → (i : ℕ) (x : X) → slice_get xs i ≡ Some x → p (n + i, x) ≡ true
numbered_read p n [] all i x at = absurd (none≢some x at)
numbered_read p n (y ∷ xs) all zero x at =
    let here : n ≡ n + 0 = omega arith in
    subst (λ k. p (k, x) ≡ true) here (subst (λ z. p (n, z) ≡ true) (some_same y x at) (and_parts (p (n, y)) (list_all p (enumerate_from (n + 1) xs)) all).0)
numbered_read p n (y ∷ xs) all (suc i) x at =
    let next : n + 1 + i ≡ n + suc i = omega arith in
    subst (λ k. p (k, x) ≡ true) next (numbered_read p (n + 1) xs (and_parts (p (n, y)) (list_all p (enumerate_from (n + 1) xs)) all).1 i x at)

numbered_pass : {X : Type 0} (p : ℕ × X → Bool) (n : ℕ) (xs : List X) → ((i : ℕ) (x : X) → slice_get xs i ≡ Some x → p (n + i, x) ≡ true) → list_all p (enumerate_from n xs) ≡ true
numbered_pass p n [] each = refl
numbered_pass p n (y ∷ xs) each =
    let here : n + 0 ≡ n = omega arith in
    and_from (p (n, y)) (list_all p (enumerate_from (n + 1) xs)) (subst (λ k. p (k, y) ≡ true) here (each 0 y refl)) (numbered_pass p (n + 1) xs (λ i x at. let next : n + suc i ≡ n + 1 + i = omega arith in subst (λ k. p (k, x) ≡ true) next (each (suc i) x at)))

-- the same with the numbers from 0 on

pub places_read : {X : Type 0} (p : ℕ × X → Bool) (xs : List X) → list_all p (enumerate_from 0 xs) ≡ true → (i : ℕ) (x : X) → slice_get xs i ≡ Some x → p (i, x) ≡ true
places_read p xs all i x at = let here : 0 + i ≡ i = omega arith in subst (λ k. p (k, x) ≡ true) here (numbered_read p 0 xs all i x at)

pub places_pass : {X : Type 0} (p : ℕ × X → Bool) (xs : List X) → ((i : ℕ) (x : X) → slice_get xs i ≡ Some x → p (i, x) ≡ true) → list_all p (enumerate_from 0 xs) ≡ true
places_pass p xs each = numbered_pass p 0 xs (λ i x at. let here : i ≡ 0 + i = omega arith in subst (λ k. p (k, x) ≡ true) here (each i x at))

-- every element from place n on

pub past_read : {X : Type 0} (p : X → Bool) (n : ℕ) (xs : List X) → list_all p (drop n xs) ≡ true → (i : ℕ) (x : X) → slice_get xs i ≡ Some x → p x ≡ false → i < n
past_read p zero xs all i x at fails = absurd (both_ways (p x) fails (all_read p xs all i x at))
past_read p (suc n) [] all i x at fails = absurd (none≢some x at)
past_read p (suc n) (y ∷ xs) all zero x at fails = omega arith
past_read p (suc n) (y ∷ xs) all (suc i) x at fails = let less = past_read p n xs all i x at fails in omega (arith, less)

pub past_pass : {X : Type 0} (p : X → Bool) (n : ℕ) (xs : List X) → ((i : ℕ) (x : X) → slice_get xs i ≡ Some x → p x ≡ false → i < n) → list_all p (drop n xs) ≡ true
past_pass p zero xs each = all_pass p xs (λ i x at. ⊎_elim (λ passes. passes) (λ fails. let less = each i x at fails in absurd (omega (arith, less))) (cases_Bool (p x)))
past_pass p (suc n) [] each = refl
past_pass p (suc n) (y ∷ xs) each = past_pass p n xs (λ i x at fails. let less = each (suc i) x at fails in omega (arith, less))

-- numbers of a list

pub among_read : (ts : List ℕ) (t : ℕ) → is_among ts t ≡ true → (k : ℕ) × (slice_get ts k ≡ Some t)
among_read [] t e = cc e
among_read (u ∷ ts) t e =
    ⊎_elim
    (λ here. (0, ap Some (eqb-true u t here)))
    (λ later. let there = among_read ts t later in (suc there.0, there.1))
    (or_cases (u == t) (is_among ts t) e)

pub among_pass : (ts : List ℕ) (k t : ℕ) → slice_get ts k ≡ Some t → is_among ts t ≡ true
among_pass [] k t at = absurd (none≢some t at)
among_pass (u ∷ ts) zero t at = or_left (u == t) (is_among ts t) (eq-eqb u t (some_same u t at))
among_pass (u ∷ ts) (suc k) t at = or_right (u == t) (is_among ts t) (among_pass ts k t at)

-- no number stands at two places
abbrev pub Once : List ℕ → Type 0
Once ts = (j k t : ℕ) → slice_get ts j ≡ Some t → slice_get ts k ≡ Some t → j ≡ k

pub not_true : (b : Bool) → not b ≡ true → b ≡ false
not_true true e = cc e
not_true false e = refl

pub differ_read : (ts : List ℕ) → all_differ ts ≡ true → Once ts
differ_read [] e j k t at_j at_k = absurd (none≢some t at_j)
differ_read (u ∷ ts) e zero zero t at_j at_k = refl
differ_read (u ∷ ts) e zero (suc k) t at_j at_k =
    let first = not_true (is_among ts u) (and_parts (not (is_among ts u)) (all_differ ts) e).0 in
    absurd (both_ways (is_among ts u) first (among_pass ts k u (at_k ∙ sym at_j)))
differ_read (u ∷ ts) e (suc j) zero t at_j at_k =
    let first = not_true (is_among ts u) (and_parts (not (is_among ts u)) (all_differ ts) e).0 in
    absurd (both_ways (is_among ts u) first (among_pass ts j u (at_j ∙ sym at_k)))
differ_read (u ∷ ts) e (suc j) (suc k) t at_j at_k = ap suc (differ_read ts (and_parts (not (is_among ts u)) (all_differ ts) e).1 j k t at_j at_k)

pub differ_pass : (ts : List ℕ) → Once ts → all_differ ts ≡ true
differ_pass [] once = refl
differ_pass (u ∷ ts) once =
    and_from (not (is_among ts u)) (all_differ ts)
    (⊎_elim
    (λ there. let k = among_read ts u there in let same = once 0 (suc k.0) u refl k.1 in absurd (omega (arith, same)))
    (λ none. not_from_false (is_among ts u) none)
    (cases_Bool (is_among ts u)))
    (differ_pass ts (λ j k t at_j at_k. let same = once (suc j) (suc k) t at_j at_k in omega (arith, same)))

-- equal lists of bookings

pub sames_read : (bs cs : List Booking) → are_same bs cs ≡ true → bs ≡ cs
sames_read [] [] e = refl
sames_read [] (c ∷ cs) e = cc e
sames_read (b ∷ bs) [] e = cc e
sames_read (b ∷ bs) (c ∷ cs) e =
    let parts = and_parts (is_same b c) (are_same bs cs) e in
    ap (λ x. x ∷ bs) (same_booking b c parts.0) ∙ ap (λ xs. c ∷ xs) (sames_read bs cs parts.1)

pub sames_themselves : (bs : List Booking) → are_same bs bs ≡ true
sames_themselves [] = refl
sames_themselves (b ∷ bs) = and_from (is_same b b) (are_same bs bs) (booking_same b) (sames_themselves bs)
