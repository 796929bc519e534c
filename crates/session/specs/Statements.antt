-- The statements of a script: the lines that have a word, each with its number and its bytes.
use Rattle.std.specs.Prelude.{◌≡◌, ◌≤◌, ℕ, ◌+◌, IsTrue, List, [], ◌∷◌, length, Some, None, Ok, Err, Option, Result}
use Rattle.std.specs.Option.{option_map_or}
use Rattle.script.specs.Data.{LineData, line_data, takes_memory}
use Rattle.script.specs.Lines.{lines_left}
use Rattle.script.specs.Read.{Answer, silent, says, not_understood, read}
use Rattle.script.specs.declared.error.LineError.{LineError}
use Rattle.script.specs.declared.error.LineError.TheVariants.{NotUnderstood, Memory}
use Rattle.script.specs.declared.line.Line.{Line}
use Rattle.session.specs.declared.reader.Reader.{Reader}

-- the number of a line, its bytes, and what it says, if it is understood
pub record Statement : Type 0 where
  pub number : ℕ
  pub bytes : List ℕ
  pub said : Option LineData

-- what line n of these bytes answers, before the statements of later lines
abbrev pub stated : ℕ → List ℕ → Answer → List Statement → List Statement
stated n bs silent later = later
stated n bs (says d) later = record { number = n; bytes = bs; said = Some d } ∷ later
stated n bs not_understood later = record { number = n; bytes = bs; said = None } ∷ later

-- the statements of these lines, which stand after n others
abbrev pub statements : ℕ → List (List ℕ) → List Statement
statements n [] = []
statements n (l ∷ ls) = stated (n + 1) l (read l) (statements (n + 1) ls)

-- the line that was handed back, if any, which is line n of these bytes, before the statements of later lines
abbrev pub put_back : ℕ → List ℕ → Option Line → List Statement → List Statement
put_back n bs None later = later
put_back n bs (Some l) later = record { number = n; bytes = bs; said = Some (line_data l) } ∷ later

-- what a reader has not read yet
abbrev pub unread : Reader → List Statement
unread r = statements r.number (lines_left r.lines)

-- what comes when a reader is asked: what was handed back, and what it has not read yet
abbrev pub to_come : Reader → List Statement
to_come r = put_back r.number r.bytes.now r.handed_back (unread r)

-- the answer is the first statement of those before, with this number and these bytes, and the others are those after
abbrev pub IsFirst : Option (Result Line LineError) → ℕ → List ℕ → List Statement → List Statement → Type 0
IsFirst None n bs before after = (before ≡ []) × (after ≡ [])
IsFirst (Some (Ok l)) n bs before after = before ≡ record { number = n; bytes = bs; said = Some (line_data l) } ∷ after
IsFirst (Some (Err NotUnderstood)) n bs before after = before ≡ record { number = n; bytes = bs; said = None } ∷ after
IsFirst (Some (Err Memory)) n bs before after =
    (d : LineData) × (before ≡ record { number = n; bytes = bs; said = Some d } ∷ after) × IsTrue (takes_memory d)

-- how many lines come when a reader is asked, with one that was handed back
abbrev pub lines_to_come : Reader → ℕ
lines_to_come r = length (lines_left r.lines) + option_map_or (λ line. 1) r.handed_back 0

-- a reader that is asked gives the first statement that comes, keeps none back, and has no more lines to come than before
abbrev pub GivesFirst : Reader → Option (Result Line LineError) → Reader → Type 0
GivesFirst old said new = IsFirst said new.number new.bytes.now (to_come old) (unread new) × (new.handed_back ≡ None) × (lines_to_come new ≤ lines_to_come old)
