-- A word that is read as a number spells the number.
use Rattle.std.proofs.Common.{◌≡◌, ℕ, zero, suc, ◌<◌, ◌≤◌, true, List, [], ◌∷◌, length, get_or, Some, arith}
use Rattle.std.specs.Char.{is_ascii_digit}
use Rattle.std.specs.Str.{all_ascii_digits}
use Rattle.std.proofs.lemmas.Bool.{and_parts}
use Rattle.std.proofs.lemmas.Bool.Decides.{nat_tests}
use Rattle.script.specs.Number.{number_of}
use Rattle.script.specs.Spelling.{Spells}

digits_each : (w : List ℕ) → all_ascii_digits w ≡ true → (i : ℕ) → i < length w → (48 ≤ get_or w i 0) × (get_or w i 0 ≤ 57)
digits_each [] e i h = absurd (omega arith)
digits_each (b ∷ w) e zero h = grind (arith, nat_tests)
digits_each (b ∷ w) e (suc i) h = digits_each w (and_parts (is_ascii_digit b) (all_ascii_digits w) e).1 i (omega arith)

pub spells_from_number : (w : List ℕ) (n : ℕ) → Some n ≡ number_of w → Spells w n
spells_from_number w n e = record {
  some = grind (arith, nat_tests);
  digits = digits_each w (grind (arith, nat_tests));
  value = grind (arith, nat_tests);
  fits = grind (arith, nat_tests);
}
