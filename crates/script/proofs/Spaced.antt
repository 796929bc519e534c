-- The words of a line, parted by single spaces, are the words of that text again.
use Rattle.std.proofs.Common.{◌≡◌, ℕ, Bool, true, ◌&&◌, ltb, List, [], ◌∷◌, ◌++◌, length, refl, arith}
use Rattle.std.specs.List.{list_all}
use Rattle.std.proofs.lemmas.Bool.Decides.{nat_tests}
use Rattle.std.proofs.lemmas.Grind.{common_steps}
use Rattle.script.specs.Read.{read, line_words, spaced}
use Rattle.script.specs.Words.{solid, other_than, uncommented, words_after, words_of}

-- no byte begins a comment
abbrev pub bare : List ℕ → Bool
bare bs = list_all (other_than 35) bs

-- what can be a word of a line
abbrev pub is_word : List ℕ → Bool
is_word w = ltb 0 (length w) && (list_all solid w && bare w)

bare_uncommented : (bs : List ℕ) → bare (uncommented bs) ≡ true
bare_uncommented [] = refl
bare_uncommented (b ∷ bs) = grind (arith, nat_tests, bare_uncommented bs)

uncommented_bare : (bs : List ℕ) → bare bs ≡ true → uncommented bs ≡ bs
uncommented_bare [] p = refl
uncommented_bare (b ∷ bs) p = grind (arith, nat_tests, uncommented_bare bs)

-- each piece between blanks is a word
words_words : (w bs : List ℕ) → list_all solid w ≡ true → bare w ≡ true → bare bs ≡ true → list_all is_word (words_after w bs) ≡ true
words_words [] [] s p q = refl
words_words (c ∷ w) [] s p q = grind (arith, nat_tests)
words_words w (b ∷ bs) s p q = grind (arith, nat_tests, common_steps, words_words [] bs refl refl, words_words (w ++ b ∷ []) bs)

bare_spaced : (ws : List (List ℕ)) → list_all is_word ws ≡ true → bare (spaced ws) ≡ true
bare_spaced [] p = refl
bare_spaced (w ∷ []) p = grind (arith, nat_tests)
bare_spaced (w ∷ v ∷ ws) p = grind (arith, nat_tests, common_steps, bare_spaced (v ∷ ws))

-- a word that has begun takes in every byte up to a blank
words_through : (v w rest : List ℕ) → list_all solid w ≡ true → words_after v (w ++ rest) ≡ words_after (v ++ w) rest
words_through v [] rest s = grind (arith, common_steps)
words_through v (b ∷ w) rest s = grind (arith, nat_tests, common_steps, words_through (v ++ b ∷ []) w rest)

words_of_spaced : (ws : List (List ℕ)) → list_all is_word ws ≡ true → words_of (spaced ws) ≡ ws
words_of_spaced [] p = refl
words_of_spaced (w ∷ []) p = grind (arith, nat_tests, common_steps, words_through [] w [])
words_of_spaced (w ∷ v ∷ ws) p = grind (arith, nat_tests, common_steps, words_through [] w (32 ∷ spaced (v ∷ ws)), words_of_spaced (v ∷ ws))

pub line_words_spaced : (ws : List (List ℕ)) → list_all is_word ws ≡ true → line_words (spaced ws) ≡ ws
line_words_spaced ws p = grind (arith, uncommented_bare (spaced ws) (bare_spaced ws p), words_of_spaced ws p)

pub read_spaced : (bs : List ℕ) → read (spaced (line_words bs)) ≡ read bs
read_spaced bs = rw (line_words_spaced (line_words bs) (words_words [] (uncommented bs) refl refl (bare_uncommented bs))) refl
