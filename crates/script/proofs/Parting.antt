-- The first word of some bytes, and the words that follow it.
use Rattle.std.proofs.Common.{◌≡◌, ℕ, ◌+◌, ◌<◌, ◌≤◌, List, [], ◌∷◌, ◌++◌, length, take, drop, refl, arith}
use Rattle.std.specs.List.{prefix_len}
use Rattle.std.proofs.lemmas.Grind.{common_steps}
use Rattle.std.proofs.lemmas.List.{length_push}
use Rattle.script.proofs.Runs.{run}
use Rattle.script.specs.Words.{blank, solid, uncommented, other_than, ended, words_after, words_of}

-- blanks in front are passed over
pub words_past_blanks : (bs : List ℕ) → words_of bs ≡ words_of (drop (prefix_len blank bs) bs)
words_past_blanks [] = refl
words_past_blanks (b ∷ bs) = grind (arith, run blank b bs, words_past_blanks bs)

-- a word goes on as long as no blank comes
pub words_past_solids : (w bs : List ℕ) → words_after w bs ≡ ended (w ++ take (prefix_len solid bs) bs) (words_of (drop (prefix_len solid bs) bs))
words_past_solids w [] = grind (arith, common_steps)
words_past_solids w (b ∷ bs) = grind (arith, common_steps, run solid b bs, words_past_solids (w ++ b ∷ []) bs)

-- what stands before the first `#` is the longest front without one
pub uncommented_is : (bs : List ℕ) → uncommented bs ≡ take (prefix_len (other_than 35) bs) bs
uncommented_is [] = refl
uncommented_is (b ∷ bs) = grind (arith, run (other_than 35) b bs, uncommented_is bs)

-- where no word follows the blanks, nothing does
all_blank : (bs : List ℕ) → prefix_len solid (drop (prefix_len blank bs) bs) ≡ 0 → drop (prefix_len blank bs) bs ≡ []
all_blank [] none = refl
all_blank (b ∷ bs) none = grind (arith, run blank b bs, run solid b bs, all_blank bs)

abbrev past_blanks : List ℕ → List ℕ
past_blanks bs = drop (prefix_len blank bs) bs

pub no_word : (bs : List ℕ) → prefix_len solid (past_blanks bs) ≡ 0 → words_of bs ≡ []
no_word bs none = grind (arith, words_past_blanks bs, all_blank bs)

pub first_word : (bs : List ℕ) → 0 < prefix_len solid (past_blanks bs) → words_of bs ≡ take (prefix_len solid (past_blanks bs)) (past_blanks bs) ∷ words_of (drop (prefix_len solid (past_blanks bs)) (past_blanks bs))
first_word bs some = grind (arith, common_steps, words_past_blanks bs, words_past_solids [] (past_blanks bs))

-- a piece that ends gives no more pieces than it has bytes
pub few_ended : (w : List ℕ) → length (ended w []) ≤ length w
few_ended [] = omega arith
few_ended (b ∷ w) = omega arith

few_after : (w bs : List ℕ) → length (words_after w bs) ≤ length w + length bs
few_after w [] = omega (arith, few_ended w)
few_after w (b ∷ bs) = grind (arith, few_after [] bs, few_after (w ++ b ∷ []) bs, length_push w b)

-- a text has no more words than bytes
pub few_words : (bs : List ℕ) → length (words_of bs) ≤ length bs
few_words bs = omega (arith, few_after [] bs)
