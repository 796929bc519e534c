-- Two lists in which every test counts the same have the same elements.
use Rattle.std.proofs.Common.{◌≡◌, Bool, true, cond, List, [], ◌∷◌, length, get_or, count_by, Contains, nat_lt, sym, refl, ap, ◌∙◌, arith}
use Rattle.std.specs.List.{list_any}
use Rattle.std.proofs.lemmas.Bool.{and_parts, eqb-true}
use Rattle.std.proofs.lemmas.Bool.Decides.{nat_tests}
use Rattle.std.proofs.lemmas.List.{get_or_default}
use Rattle.std.proofs.lemmas.List.Folds.{Any-from_list_any, list_any_at}
use Rattle.std.proofs.lemmas.List.Sums.{sum_by-cons}
use Rattle.model.specs.Bookings.{is_same}
use Rattle.model.specs.declared.booking.Booking.{Booking}

pub list_any_count_by : {X : Type 0} (p : X → Bool) (xs : List X) → list_any p xs ≡ nat_lt 0 (count_by p xs)
list_any_count_by p [] = refl
list_any_count_by p (x ∷ xs) =
    let rest = list_any_count_by p xs in
    let first = sum_by-cons (λ y. cond (p y) 1 0) x xs in
    grind (arith, nat_tests)

module _ (xs ys : List Booking) (same : (p : Booking → Bool) → count_by p ys ≡ count_by p xs) where
  pub list_any_same : (p : Booking → Bool) → list_any p ys ≡ list_any p xs
  list_any_same p = list_any_count_by p ys ∙ ap (nat_lt 0) (same p) ∙ sym (list_any_count_by p xs)

-- the fields of a booking tell it from every other

pub same_booking : (a b : Booking) → is_same a b ≡ true → a ≡ b
same_booking a b e =
    let last = and_parts _ _ e in
    let first = and_parts _ _ last.0 in
    ap (λ r. record a { resource = r }) (eqb-true _ _ first.0)
    ∙ ap (λ s. record { resource = b.resource; start = s; length = a.length }) (eqb-true _ _ first.1)
    ∙ ap (λ n. record b { length = n }) (eqb-true _ _ last.1)

pub booking_same : (b : Booking) → is_same b b ≡ true
booking_same b = grind (arith, nat_tests)

pub contains_same : (xs ys : List Booking) → ((p : Booking → Bool) → count_by p ys ≡ count_by p xs) → (b : Booking) → Contains xs b → Contains ys b
contains_same xs ys same b there =
    let test = is_same b in
    let here = list_any_at test xs there.0 b there.1 (ap test there.2 ∙ booking_same b) in
    let found = Any-from_list_any test ys (list_any_same xs ys same test ∙ here) in
    let is : get_or ys found.0 found.1 ≡ b = found.3 ∙ sym (same_booking b found.1 found.4) in
    (found.0, found.2, get_or_default ys found.0 b found.1 found.2 ∙ is)

count_by_all : {X : Type 0} (xs : List X) → count_by (λ _. true) xs ≡ length xs
count_by_all [] = refl
count_by_all (x ∷ xs) = sum_by-cons (λ _. 1) x xs ∙ omega (arith, count_by_all xs)

pub length_same : (xs ys : List Booking) → ((p : Booking → Bool) → count_by p ys ≡ count_by p xs) → length ys ≡ length xs
length_same xs ys same = sym (count_by_all ys) ∙ same (λ _. true) ∙ count_by_all xs
