-- What a line of bytes says.
use Rattle.std.specs.Prelude.{◌≡◌, ℕ, IsTrue, List, [], ◌∷◌, ◌++◌, Some, None, Ok, Err, Option, Result}
use Rattle.script.specs.Data.{LineData, line_data, takes_memory}
use Rattle.script.specs.Statement.{line_of}
use Rattle.script.specs.Words.{uncommented, words_of}
use Rattle.script.specs.declared.error.LineError.{LineError}
use Rattle.script.specs.declared.error.LineError.TheVariants.{NotUnderstood, Memory}
use Rattle.script.specs.declared.line.Line.{Line}

pub data Answer : Type 0 where
  -- there is no word
  silent : Answer
  says : LineData → Answer
  not_understood : Answer

-- what a line that has a word answers, by what it says
abbrev pub answered : Option LineData → Answer
answered None = not_understood
answered (Some d) = says d

abbrev pub read_words : List (List ℕ) → Answer
read_words [] = silent
read_words (w ∷ ws) = answered (line_of w ws)

-- the words before the comment
abbrev pub line_words : List ℕ → List (List ℕ)
line_words bs = words_of (uncommented bs)

abbrev pub read : List ℕ → Answer
read bs = read_words (line_words bs)

-- the line says something that it takes memory to hold
abbrev pub TakesMemory : Answer → Type 0
TakesMemory (says d) = IsTrue (takes_memory d)
TakesMemory _ = ⊥

-- the reader's result is this answer; memory can run out only at a line that takes memory
abbrev pub Reads : Result (Option Line) LineError → Answer → Type 0
Reads (Ok None) a = a ≡ silent
Reads (Ok (Some l)) a = a ≡ says (line_data l)
Reads (Err NotUnderstood) a = a ≡ not_understood
Reads (Err Memory) a = TakesMemory a

-- words with a single space between each two
abbrev pub spaced : List (List ℕ) → List ℕ
spaced [] = []
spaced (w ∷ []) = w
spaced (w ∷ v ∷ ws) = w ++ 32 ∷ spaced (v ∷ ws)
