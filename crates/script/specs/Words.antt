-- The words of a line: what stands before its comment, parted at blanks.
use Rattle.std.specs.Prelude.{◌≡◌, ℕ, ◌<◌, Bool, if◌then◌else◌, not, ◌||◌, List, [], ◌∷◌, ◌++◌, length, Some, None, Option, ◌==◌}
use Rattle.std.specs.Borrow.{Bor}
use Rattle.std.specs.Str.{bytes_eq}
use Rattle.script.specs.declared.words.Words.{Words}

-- a space, a tab or a carriage return
abbrev pub blank : ℕ → Bool
blank b = b == 32 || b == 9 || b == 13

abbrev pub solid : ℕ → Bool
solid b = not (blank b)

abbrev pub other_than : ℕ → ℕ → Bool
other_than c b = not (b == c)

-- whatever a test answers of a byte is what `passes` says of it
abbrev pub TestsBy : (ℕ → Bool → Type 0) → (ℕ → Bool) → Type 0
TestsBy answers passes = (b : ℕ) (r : Bool) → answers b r → r ≡ passes b

-- what stands before the first `#`, which is byte 35
abbrev pub uncommented : List ℕ → List ℕ
uncommented [] = []
uncommented (b ∷ bs) = if other_than 35 b then b ∷ uncommented bs else []

-- a piece that ends here, before those that follow it; an empty piece is none
abbrev pub ended : List ℕ → List (List ℕ) → List (List ℕ)
ended [] ps = ps
ended (b ∷ p) ps = (b ∷ p) ∷ ps

-- the words of bytes that stand after w, the beginning of a word
abbrev pub words_after : List ℕ → List ℕ → List (List ℕ)
words_after w [] = ended w []
words_after w (b ∷ bs) = if blank b then ended w (words_after [] bs) else words_after (w ++ b ∷ []) bs

abbrev pub words_of : List ℕ → List (List ℕ)
words_of bs = words_after [] bs

-- whether two words are the same, byte by byte
unfoldable pub same_word : List ℕ → List ℕ → Bool
same_word v w = bytes_eq v w

-- what the word w names in a table of words
abbrev pub named : {T : Type 0} → List (List ℕ × T) → List ℕ → Option T
named [] w = None
named (entry ∷ table) w = if same_word w entry.0 then Some entry.1 else named table w

-- the first word of bs and what follows it
abbrev pub Parted : Option (Bor (List ℕ) × Bor (List ℕ)) → List ℕ → Type 0
Parted None bs = words_of bs ≡ []
Parted (Some p) bs = (words_of bs ≡ p.0.now ∷ words_of p.1.now) × (length p.1.now < length bs)

abbrev pub words_left : Words → List (List ℕ)
words_left w = words_of w.rest.now
