-- The number that a word spells, and the numbers of a text.
use Rattle.std.specs.Prelude.{ℕ, ◌+◌, ◌-◌, ◌*◌, ◌^◌, Bool, if◌then◌else◌, not, ◌&&◌, List, [], ◌∷◌, length, Some, None, Ok, Err, Option, Result, ◌==◌, nat_lt}
use Rattle.std.specs.Option.{option_map, ok_or}
use Rattle.std.specs.Str.{all_ascii_digits}
use Rattle.script.specs.declared.error.LineError.{LineError}
use Rattle.script.specs.declared.error.LineError.TheVariants.{NotUnderstood}

-- the value of decimal digits that stand after digits of the value n; `0` is byte 48
abbrev pub value_after : ℕ → List ℕ → ℕ
value_after n [] = n
value_after n (b ∷ bs) = value_after (n * 10 + (b - 48)) bs

abbrev pub decimal_value : List ℕ → ℕ
decimal_value w = value_after 0 w

-- whether the word is a number: digits alone, at least one, of a value that fits 32 bits.
-- Zeros may stand in front: they change no value.
abbrev pub is_number : List ℕ → Bool
is_number w = not (length w == 0) && (all_ascii_digits w && nat_lt (decimal_value w) (2 ^ 32))

abbrev pub number_of : List ℕ → Option ℕ
number_of w = if is_number w then Some (decimal_value w) else None

-- n before the numbers, if both are there
abbrev pub put_before : Option ℕ → Option (List ℕ) → Option (List ℕ)
put_before None ns = None
put_before (Some n) ns = option_map (λ rest. n ∷ rest) ns

-- the numbers of the words, if each is a number
abbrev pub numbers_of : List (List ℕ) → Option (List ℕ)
numbers_of [] = Some []
numbers_of (w ∷ ws) = put_before (number_of w) (numbers_of ws)

-- the number that the first word spells
abbrev pub first_number : List (List ℕ) → Result ℕ LineError
first_number [] = Err NotUnderstood
first_number (w ∷ ws) = ok_or (number_of w) NotUnderstood

-- the numbers, if these are n
abbrev pub exactly_of : ℕ → Option (List ℕ) → Result (List ℕ) LineError
exactly_of n None = Err NotUnderstood
exactly_of n (Some ns) = if length ns == n then Ok ns else Err NotUnderstood
