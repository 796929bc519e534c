-- What it is for a word to spell a number, said without the definition of reading.
use Rattle.std.specs.Prelude.{◌≡◌, ℕ, ◌^◌, ◌<◌, ◌≤◌, List, length, slice_index}
use Rattle.script.specs.Number.{decimal_value}

-- the word has at least one byte, each byte is a digit, and their decimal value is n, which fits 32 bits
pub record Spells (w : List ℕ) (n : ℕ) : Type 0 where
  pub some : 0 < length w
  pub digits : (i : ℕ) → i < length w → (48 ≤ slice_index w i) × (slice_index w i ≤ 57)
  pub value : decimal_value w ≡ n
  pub fits : n < 2 ^ 32
