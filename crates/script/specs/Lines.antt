-- The lines of a text: what newlines end, and what stands after the last newline, unless that is empty.
use Rattle.std.specs.Prelude.{All, ◌≡◌, ℕ, ◌<◌, length, if◌then◌else◌, ◌⊎◌, List, [], ◌∷◌, ◌++◌, ◌==◌, ◌≢◌}
use Rattle.script.specs.Words.{ended}
use Rattle.script.specs.declared.lines.Lines.{Lines}

-- the lines of bytes that stand after l, the beginning of a line; a newline is byte 10
abbrev pub lines_after : List ℕ → List ℕ → List (List ℕ)
lines_after l [] = ended l []
lines_after l (b ∷ bs) = if b == 10 then l ∷ lines_after [] bs else lines_after (l ++ b ∷ []) bs

abbrev pub lines_of : List ℕ → List (List ℕ)
lines_of bs = lines_after [] bs

-- a newline after each line
abbrev pub unlines : List (List ℕ) → List ℕ
unlines [] = []
unlines (l ∷ ls) = l ++ 10 ∷ unlines ls

-- the last line is not empty
abbrev pub EndsInText : List (List ℕ) → Type 0
EndsInText [] = ⊥
EndsInText (l ∷ []) = 0 < length l
EndsInText (l ∷ m ∷ ls) = EndsInText (m ∷ ls)

-- no line holds a newline, and with a newline after each the lines are the text,
-- or, where a text without a newline ends it, the text with a newline at its end
pub record Splits (bs : List ℕ) (ls : List (List ℕ)) : Type 0 where
  pub whole : (unlines ls ≡ bs) ⊎ ((unlines ls ≡ bs ++ 10 ∷ []) × EndsInText ls)
  pub single : All (All (λ b. b ≢ 10)) ls

abbrev pub lines_left : Lines → List (List ℕ)
lines_left l = lines_of l.rest.now
