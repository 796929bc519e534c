-- The digits of a word, one by one, and the numbers of words.
use Rattle.std.proofs.Common.{◌≡◌, ℕ, true, ◌+◌, ◌-◌, ◌*◌, ◌<◌, ◌≤◌, ◌&&◌, List, [], ◌∷◌, Some, None, Ok, Option, length, get_or, drop, refl, arith, unwrap_or, IsSome}
use Rattle.std.proofs.lemmas.List.{at_drop_more}
use Rattle.std.specs.List.{list_all}
use Rattle.std.specs.Option.{option_map, is_some, ok_or}
use Rattle.script.specs.Number.{value_after, number_of, numbers_of, first_number, put_before}
use Rattle.script.specs.declared.error.LineError.TheVariants.{NotUnderstood}

-- more digits make no smaller value
pub value_grows : (n : ℕ) (bs : List ℕ) → n ≤ value_after n bs
value_grows n [] = omega arith
value_grows n (b ∷ bs) = omega (arith, value_grows (n * 10 + (b - 48)) bs)

pub value_at : (v : ℕ) (w : List ℕ) (i : ℕ) → i < length w → value_after v (drop i w) ≡ value_after (v * 10 + (get_or w i 0 - 48)) (drop (i + 1) w)
value_at v w i h = at_drop_more (value_after v) w i 0 h

both_there : (m : Option ℕ) (ns : Option (List ℕ)) → (is_some m && is_some ns) ≡ is_some (put_before m ns)
both_there None ns = refl
both_there (Some n) None = refl
both_there (Some n) (Some ns) = refl

-- the words have numbers where each has one
pub numbers_if_all : (ws : List (List ℕ)) → list_all (λ w. is_some (number_of w)) ws ≡ is_some (numbers_of ws)
numbers_if_all [] = refl
numbers_if_all (w ∷ ws) = rw (numbers_if_all ws) (both_there (number_of w) (numbers_of ws))

one_longer : (m : Option ℕ) (ns : Option (List ℕ)) (k : ℕ) → (is_some ns ≡ true → length (unwrap_or ns []) ≡ k) → is_some (put_before m ns) ≡ true → length (unwrap_or (put_before m ns) []) ≡ k + 1
one_longer None ns k h there = cc
one_longer (Some n) None k h there = cc
one_longer (Some n) (Some ns) k h there = omega (arith, h refl)

-- each word is one number
pub numbers_length : (ws : List (List ℕ)) → is_some (numbers_of ws) ≡ true → length (unwrap_or (numbers_of ws) []) ≡ length ws
numbers_length [] there = refl
numbers_length (w ∷ ws) there = omega (arith, one_longer (number_of w) (numbers_of ws) (length ws) (numbers_length ws) there)

all_counted : (o : Option (List ℕ)) (k n : ℕ) → (is_some o ≡ true → length (unwrap_or o []) ≡ k) → Some n ≡ option_map (λ ns. length ns) o → IsSome o × (n ≡ k)
all_counted None k n long is = cc
all_counted (Some ns) k n long is = let same : n ≡ length ns = cc in (refl, omega (arith, same, long refl))

-- as many words as numbers, where each word is one
pub counted : (ws : List (List ℕ)) (n : ℕ) → Some n ≡ option_map (λ ns. length ns) (numbers_of ws) → IsSome (numbers_of ws) × (n ≡ length ws)
counted ws n is = all_counted (numbers_of ws) (length ws) n (numbers_length ws) is

read_first : (m : Option ℕ) (n : ℕ) → Ok n ≡ ok_or m NotUnderstood → m ≡ Some n
read_first None n is = cc
read_first (Some k) n is = cc

-- the number that is read first stands before those of the words that are left
pub next_read : (ws vs : List (List ℕ)) (n : ℕ) → Ok n ≡ first_number ws → vs ≡ drop 1 ws → numbers_of ws ≡ put_before (Some n) (numbers_of vs)
next_read [] vs n is rest = cc
next_read (w ∷ ws) vs n is rest = rw (rest, read_first (number_of w) n is) refl
