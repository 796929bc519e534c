-- The first line of a text, and the lines that follow it.
use Rattle.std.proofs.Common.{◌≡◌, ℕ, suc, ◌+◌, ◌<◌, ◌≤◌, min, List, [], ◌∷◌, ◌++◌, length, take, drop, ⊎_elim, arith}
use Rattle.std.specs.List.{prefix_len}
use Rattle.std.proofs.lemmas.Bool.{cases_lt}
use Rattle.std.proofs.lemmas.Bool.Decides.{nat_tests}
use Rattle.std.proofs.lemmas.Grind.{common_steps}
use Rattle.script.specs.Words.{other_than, ended}
use Rattle.script.specs.Lines.{lines_after, lines_of}
use Rattle.script.proofs.Runs.{run}

abbrev line_length : List ℕ → ℕ
line_length bs = prefix_len (other_than 10) bs

-- a newline ends the line
line_ended : (l bs : List ℕ) → line_length bs < length bs → lines_after l bs ≡ (l ++ take (line_length bs) bs) ∷ lines_of (drop (suc (line_length bs)) bs)
line_ended l [] h = absurd (omega arith)
line_ended l (b ∷ bs) h = grind (arith, nat_tests, common_steps, run (other_than 10) b bs, line_ended (l ++ b ∷ []) bs)

-- the text ends the line
line_open : (l bs : List ℕ) → length bs ≤ line_length bs → lines_after l bs ≡ ended (l ++ bs) []
line_open l [] h = grind (arith, common_steps)
line_open l (b ∷ bs) h = grind (arith, nat_tests, common_steps, run (other_than 10) b bs, line_open (l ++ b ∷ []) bs)

pub first_line : (bs : List ℕ) → 0 < length bs → lines_of bs ≡ take (line_length bs) bs ∷ lines_of (drop (min (length bs) (line_length bs + 1)) bs)
first_line bs some =
    ⊎_elim
    (λ (newline : line_length bs < length bs). grind (arith, common_steps, line_ended [] bs))
    (λ (none : length bs ≤ line_length bs). grind (arith, common_steps, line_open [] bs))
    (cases_lt (line_length bs) (length bs))
