-- Bookings that stand in a list from a place on, one after the other.
use Rattle.std.proofs.Common.{◌≡◌, ℕ, ◌+◌, ◌<◌, ◌≤◌, Bool, true, false, ◌&&◌, List, [], ◌∷◌, ◌++◌, length, get_or, drop, filter, Some, None, Option, ◌==◌, cond, refl, sym, ap, ◌∙◌, ⊎_elim, arith}
use Rattle.std.specs.List.{slice_get, flat_map, enumerate_from}
use Rattle.std.specs.Option.{option_map_or}
use Rattle.std.proofs.Math.ListN.{drop_of_length-le}
use Rattle.std.proofs.lemmas.Bool.{cases_lt, cond-true, eq-eqb, ne_eqb}
use Rattle.std.proofs.lemmas.List.{drop_more}
use Rattle.std.proofs.lemmas.Option.{slice_get-get_or, slice_get_past}
use Rattle.model.specs.Bookings.{is_same}
use Rattle.routes.proofs.Along.{at_nth}
use Rattle.model.specs.declared.booking.Booking.{Booking}
use Rattle.planner.specs.Order.{are_same}
use Rattle.planner.specs.OrderParts.{stands, place_after}

-- the place that a place gives, if there is one
abbrev pub onward : Option ℕ → (ℕ → Option ℕ) → Option ℕ
onward None next = None
onward (Some k) next = next k

pub place_after_both : (bs : List Booking) (k : ℕ) (cs ds : List Booking) → place_after bs k (cs ++ ds) ≡ onward (place_after bs k cs) (λ j. place_after bs j ds)
place_after_both bs k [] ds = refl
place_after_both bs k (c ∷ cs) ds = go (stands bs k c) (place_after_both bs (k + 1) cs ds)
  where
    go : (b : Bool) → place_after bs (k + 1) (cs ++ ds) ≡ onward (place_after bs (k + 1) cs) (λ j. place_after bs j ds) → cond b (place_after bs (k + 1) (cs ++ ds)) None ≡ onward (cond b (place_after bs (k + 1) cs) None) (λ j. place_after bs j ds)
    go true e = e
    go false e = refl

-- a list has these bookings and no more exactly if they stand in it from its begin on to its end
pub same_from : (bs : List Booking) (k : ℕ) (cs : List Booking) → k ≤ length bs → are_same (drop k bs) cs ≡ option_map_or (λ j. j == length bs) (place_after bs k cs) false
same_from bs k [] within =
    ⊎_elim
    (λ (l : k < length bs). let b = get_or bs k (record { resource = 0; start = 0; length = 0 }) in ap (λ xs. are_same xs []) (drop_more bs k (record { resource = 0; start = 0; length = 0 }) l) ∙ sym (ne_eqb k (length bs) (λ e. omega arith)))
    (λ past. ap (λ xs. are_same xs []) (drop_of_length-le bs past) ∙ sym (eq-eqb k (length bs) (omega arith)))
    (cases_lt k (length bs))
same_from bs k (c ∷ cs) within =
    ⊎_elim
    (λ (l : k < length bs).
    let b = get_or bs k c in
    ap (λ xs. are_same xs (c ∷ cs)) (drop_more bs k c l)
    ∙ go (is_same b c) (same_from bs (k + 1) cs (omega arith))
    ∙ sym (ap (λ o. option_map_or (λ j. j == length bs) (cond (option_map_or (λ a. is_same a c) o false) (place_after bs (k + 1) cs) None) false) (slice_get-get_or bs k c l)))
    (λ past.
    ap (λ xs. are_same xs (c ∷ cs)) (drop_of_length-le bs past)
    ∙ sym (ap (λ o. option_map_or (λ j. j == length bs) (cond (option_map_or (λ a. is_same a c) o false) (place_after bs (k + 1) cs) None) false) (slice_get_past bs k past)))
    (cases_lt k (length bs))
  where
    go : (b : Bool) → are_same (drop (k + 1) bs) cs ≡ option_map_or (λ j. j == length bs) (place_after bs (k + 1) cs) false → (b && are_same (drop (k + 1) bs) cs) ≡ option_map_or (λ j. j == length bs) (cond b (place_after bs (k + 1) cs) None) false
    go true e = e
    go false e = refl

-- Some bookings from place k on, part by part. The whole is what is found after all of them: a place, or none.

first_stands : (bs : List Booking) (c : Booking) (cs : List Booking) (k j : ℕ) (whole : Option ℕ) → Some j ≡ cond (stands bs k c) (Some (k + 1)) None → place_after bs k (c ∷ cs) ≡ whole → place_after bs j cs ≡ whole
first_stands bs c cs k j whole e so_far = go (stands bs k c) e so_far
  where
    go : (b : Bool) → Some j ≡ cond b (Some (k + 1)) None → cond b (place_after bs (k + 1) cs) None ≡ whole → place_after bs j cs ≡ whole
    go true e so_far = let same : j ≡ k + 1 = cc e in ap (λ n. place_after bs n cs) same ∙ so_far
    go false e so_far = cc e

first_missing : (bs : List Booking) (c : Booking) (cs : List Booking) (k : ℕ) (whole : Option ℕ) → None ≡ cond (stands bs k c) (Some (k + 1)) None → place_after bs k (c ∷ cs) ≡ whole → None ≡ whole
first_missing bs c cs k whole e so_far = go (stands bs k c) e so_far
  where
    go : (b : Bool) → None ≡ cond b (Some (k + 1)) None → cond b (place_after bs (k + 1) cs) None ≡ whole → None ≡ whole
    go true e so_far = cc e
    go false e so_far = so_far

-- one booking c at place i of cs
pub one_stands : (bs cs : List Booking) (i : ℕ) (c : Booking) (k j : ℕ) (whole : Option ℕ) → slice_get cs i ≡ Some c → Some j ≡ cond (stands bs k c) (Some (k + 1)) None → place_after bs k (drop i cs) ≡ whole → place_after bs j (drop (i + 1) cs) ≡ whole
one_stands bs cs i c k j whole at e so_far = first_stands bs c (drop (i + 1) cs) k j whole e (ap (place_after bs k) (sym (at_nth cs i c at).1) ∙ so_far)

pub one_missing : (bs cs : List Booking) (i : ℕ) (c : Booking) (k : ℕ) (whole : Option ℕ) → slice_get cs i ≡ Some c → None ≡ cond (stands bs k c) (Some (k + 1)) None → place_after bs k (drop i cs) ≡ whole → None ≡ whole
one_missing bs cs i c k whole at e so_far = first_missing bs c (drop (i + 1) cs) k whole e (ap (place_after bs k) (sym (at_nth cs i c at).1) ∙ so_far)

-- what is none for some bookings is none with more after them
pub still_missing : (bs cs ds : List Booking) (k : ℕ) → None ≡ place_after bs k cs → None ≡ place_after bs k (cs ++ ds)
still_missing bs cs ds k e = ap (λ o. onward o (λ n. place_after bs n ds)) e ∙ sym (place_after_both bs k cs ds)

-- a part
part_stands : (bs cs ds : List Booking) (k j : ℕ) (whole : Option ℕ) → Some j ≡ place_after bs k cs → place_after bs k (cs ++ ds) ≡ whole → place_after bs j ds ≡ whole
part_stands bs cs ds k j whole e so_far = ap (λ o. onward o (λ n. place_after bs n ds)) e ∙ sym (place_after_both bs k cs ds) ∙ so_far

part_missing : (bs cs ds : List Booking) (k : ℕ) (whole : Option ℕ) → None ≡ place_after bs k cs → place_after bs k (cs ++ ds) ≡ whole → None ≡ whole
part_missing bs cs ds k whole e so_far = ap (λ o. onward o (λ n. place_after bs n ds)) e ∙ sym (place_after_both bs k cs ds) ∙ so_far

-- the part of element i of xs
module _ {X : Type 0} (f : X → List Booking) (bs : List Booking) (xs : List X) (d : X) (i : ℕ) (within : i < length xs) where
  split : flat_map f (drop i xs) ≡ f (get_or xs i d) ++ flat_map f (drop (i + 1) xs)
  split = ap (flat_map f) (drop_more xs i d within)

  pub element_stands : (k j : ℕ) (whole : Option ℕ) → Some j ≡ place_after bs k (f (get_or xs i d)) → place_after bs k (flat_map f (drop i xs)) ≡ whole → place_after bs j (flat_map f (drop (i + 1) xs)) ≡ whole
  element_stands k j whole e so_far = part_stands bs _ _ k j whole e (ap (place_after bs k) (sym split) ∙ so_far)

  pub element_missing : (k : ℕ) (whole : Option ℕ) → None ≡ place_after bs k (f (get_or xs i d)) → place_after bs k (flat_map f (drop i xs)) ≡ whole → None ≡ whole
  element_missing k whole e so_far = part_missing bs _ (flat_map f (drop (i + 1) xs)) k whole e (ap (place_after bs k) (sym split) ∙ so_far)

-- all parts stand
pub all_stand : {X : Type 0} (f : X → List Booking) (bs : List Booking) (xs : List X) (i k : ℕ) (whole : Option ℕ) → length xs ≤ i → place_after bs k (flat_map f (drop i xs)) ≡ whole → Some k ≡ whole
all_stand f bs xs i k whole past so_far = ap (λ ys. place_after bs k (flat_map f ys)) (sym (drop_of_length-le xs past)) ∙ so_far

-- the part of element i of xs with its number, if it passes p
module _ {X : Type 0} (p : ℕ × X → Bool) (f : ℕ × X → List Booking) (bs : List Booking) (xs : List X) (d : X) (i : ℕ) (within : i < length xs) where
  abbrev left : ℕ → List Booking
  left n = flat_map f (filter p (enumerate_from n (drop n xs)))

  opened : left i ≡ flat_map f (cond (p (i, get_or xs i d)) ((i, get_or xs i d) ∷ filter p (enumerate_from (i + 1) (drop (i + 1) xs))) (filter p (enumerate_from (i + 1) (drop (i + 1) xs))))
  opened = ap (λ ys. flat_map f (filter p (enumerate_from i ys))) (drop_more xs i d within)

  taken : p (i, get_or xs i d) ≡ true → left i ≡ f (i, get_or xs i d) ++ left (i + 1)
  taken e = opened ∙ ap (flat_map f) (cond-true _ _ _ e)

  pub chosen_stands : p (i, get_or xs i d) ≡ true → (k j : ℕ) (whole : Option ℕ) → Some j ≡ place_after bs k (f (i, get_or xs i d)) → place_after bs k (left i) ≡ whole → place_after bs j (left (i + 1)) ≡ whole
  chosen_stands e k j whole there so_far = part_stands bs _ _ k j whole there (ap (place_after bs k) (sym (taken e)) ∙ so_far)

  pub chosen_missing : p (i, get_or xs i d) ≡ true → (k : ℕ) (whole : Option ℕ) → None ≡ place_after bs k (f (i, get_or xs i d)) → place_after bs k (left i) ≡ whole → None ≡ whole
  chosen_missing e k whole there so_far = part_missing bs _ (left (i + 1)) k whole there (ap (place_after bs k) (sym (taken e)) ∙ so_far)

-- where some bookings stand, what is after them is found from the place after them on
pub then_last : (bs : List Booking) (k j : ℕ) (cs ds : List Booking) → Some k ≡ place_after bs j cs → place_after bs j (cs ++ ds) ≡ place_after bs k ds
then_last bs k j cs ds e = place_after_both bs j cs ds ∙ ap (λ o. onward o (λ n. place_after bs n ds)) (sym e)
