-- The lines of a text, with a newline after each, are the text again.
use Rattle.std.proofs.Common.{◌≡◌, ℕ, eqb, ◌⊎◌, List, [], ◌∷◌, ◌++◌, refl, inl, inr, ⊎_elim, arith}
use Rattle.std.specs.List.{All}
use Rattle.std.proofs.lemmas.Bool.{cond_both, eqb-true, eqb-false}
use Rattle.std.proofs.lemmas.Grind.{common_steps}
use Rattle.std.proofs.lemmas.List.{append_assoc}
use Rattle.std.proofs.lemmas.List.Elements.{All-nil, All-cons, All-push}
use Rattle.script.specs.Lines.{Splits, EndsInText, lines_after, lines_of, unlines}

abbrev Whole : List ℕ → List (List ℕ) → Type 0
Whole bs ls = (unlines ls ≡ bs) ⊎ ((unlines ls ≡ bs ++ 10 ∷ []) × EndsInText ls)

abbrev Other : ℕ → Type 0
Other b = b ≡ 10 → ⊥

abbrev NoNewline : List ℕ → Type 0
NoNewline l = All Other l

ends_behind : (l : List ℕ) (ls : List (List ℕ)) → EndsInText ls → EndsInText (l ∷ ls)
ends_behind l [] ends = absurd ends
ends_behind l (m ∷ ls) ends = ends

whole_line : (l bs : List ℕ) (b : ℕ) (ls : List (List ℕ)) → b ≡ 10 → Whole bs ls → Whole (l ++ b ∷ bs) (l ∷ ls)
whole_line l bs b ls newline w =
    rw newline (⊎_elim (λ same. inl (grind (arith, common_steps))) (λ more. inr (grind (arith, common_steps), ends_behind l ls more.1)) w)

whole_after : (l bs : List ℕ) → Whole (l ++ bs) (lines_after l bs)
whole_after [] [] = inl refl
whole_after (b ∷ l) [] = inr (grind (arith, common_steps), omega arith)
whole_after l (b ∷ bs) =
    cond_both (eqb b 10) (l ∷ lines_of bs) (lines_after (l ++ b ∷ []) bs) (Whole (l ++ b ∷ bs))
    (λ yes'. whole_line l bs b (lines_of bs) (eqb-true b 10 yes') (whole_after [] bs))
    (λ no'. rw (← append_assoc l (b ∷ []) bs) (whole_after (l ++ b ∷ []) bs))

single_after : (l bs : List ℕ) → NoNewline l → All NoNewline (lines_after l bs)
single_after [] [] p = All-nil NoNewline
single_after (b ∷ l) [] p = All-cons NoNewline (b ∷ l) [] p (All-nil NoNewline)
single_after l (b ∷ bs) p =
    cond_both (eqb b 10) (l ∷ lines_of bs) (lines_after (l ++ b ∷ []) bs) (All NoNewline)
    (λ yes'. All-cons NoNewline l (lines_of bs) p (single_after [] bs (All-nil Other)))
    (λ no'. single_after (l ++ b ∷ []) bs (All-push Other l b p (eqb-false b 10 no')))

pub lines_split : (bs : List ℕ) → Splits bs (lines_of bs)
lines_split bs = record { whole = whole_after [] bs; single = single_after [] bs (All-nil Other) }
