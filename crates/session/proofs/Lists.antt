-- Writing a text for each element of a list, in turn.
use Rattle.std.proofs.Common.{◌≡◌, ℕ, zero, suc, ◌+◌, ◌≤◌, List, [], ◌∷◌, ◌++◌, drop, length, flat_map, Some, None, Option, refl, sym, ap, subst, ◌∙◌, arith}
use Rattle.std.proofs.lemmas.List.{drop_all, append-nil, append_assoc}
use Rattle.std.specs.List.{slice_get}
use Rattle.std.specs.Option.{option_map_or}
use Rattle.std.specs.Io.KnownBytes.{append_known, Appends}

-- what is written, with what is left to write, is the whole text
abbrev pub Left : Option (List ℕ) → Option (List ℕ) → List ℕ → List ℕ → Type 0
Left old now rest whole = Appends old (append_known now rest) whole

-- the first part of what is left is written
pub part_written : (old now next : Option (List ℕ)) (part rest whole : List ℕ) → Left old now (part ++ rest) whole → Appends now next part → Left old next rest whole
part_written None now next part rest whole so_far p = tt
part_written (Some x) None next part rest whole so_far p = absurd so_far
part_written (Some x) (Some y) None part rest whole so_far p = absurd p
part_written (Some x) (Some y) (Some z) part rest whole so_far p = ap (λ bs. bs ++ rest) p ∙ append_assoc y part rest ∙ so_far

pub all_written : (old now : Option (List ℕ)) (whole : List ℕ) → Left old now [] whole → Appends old now whole
all_written None now whole so_far = tt
all_written (Some x) None whole so_far = absurd so_far
all_written (Some x) (Some y) whole so_far = sym (append-nil y) ∙ so_far

pub begun : (old : Option (List ℕ)) (whole : List ℕ) → Left old old whole whole
begun None whole = tt
begun (Some x) whole = refl

at_nothing : {A : Type 0} (f : A → List ℕ) (i : ℕ) → flat_map f (drop i []) ≡ []
at_nothing f zero = refl
at_nothing f (suc i) = refl

left_at_suc : {A : Type 0} (f : A → List ℕ) (xs : List A) (i : ℕ) → flat_map f (drop i xs) ≡ option_map_or f (slice_get xs i) [] ++ flat_map f (drop (suc i) xs)
left_at_suc f [] i = at_nothing f i
left_at_suc f (y ∷ ys) zero = refl
left_at_suc f (y ∷ ys) (suc i) = left_at_suc f ys i

-- what is left of a list at place i
left_at : {A : Type 0} (f : A → List ℕ) (xs : List A) (i : ℕ) → flat_map f (drop i xs) ≡ option_map_or f (slice_get xs i) [] ++ flat_map f (drop (i + 1) xs)
left_at f xs i =
    let next : suc i ≡ i + 1 = omega arith in
    subst (λ n. flat_map f (drop i xs) ≡ option_map_or f (slice_get xs i) [] ++ flat_map f (drop n xs)) next (left_at_suc f xs i)

module _ {A : Type 0} (f : A → List ℕ) (old : Option (List ℕ)) (whole : List ℕ) where
  -- the element at place i, if there is one
  pub item_written : (now next : Option (List ℕ)) (xs : List A) (i : ℕ) → Left old now (flat_map f (drop i xs)) whole → Appends now next (option_map_or f (slice_get xs i) []) → Left old next (flat_map f (drop (i + 1) xs)) whole
  item_written now next xs i so_far p =
      part_written old now next (option_map_or f (slice_get xs i) []) (flat_map f (drop (i + 1) xs)) whole
      (subst (λ bs. Left old now bs whole) (left_at f xs i) so_far) p

  pub items_written : (now : Option (List ℕ)) (xs : List A) (i : ℕ) → length xs ≤ i → Left old now (flat_map f (drop i xs)) whole → Appends old now whole
  items_written now xs i l so_far = all_written old now whole (subst (λ ys. Left old now (flat_map f ys) whole) (drop_all i xs l) so_far)
