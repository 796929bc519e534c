-- How the text of words with a space between each two is written, word by word.
use Rattle.std.proofs.Common.{◌≡◌, ℕ, List, [], ◌∷◌, ◌++◌, Some, None, Option, sym, ap, append-nil, append_assoc, ◌∙◌}
use Rattle.std.specs.Io.KnownBytes.{append_known, Appends}
use Rattle.script.specs.Read.{spaced}

-- each word after a space
abbrev pub spaced_after : List (List ℕ) → List ℕ
spaced_after [] = []
spaced_after (w ∷ ws) = 32 ∷ (w ++ spaced_after ws)

spaced_first : (w : List ℕ) (ws : List (List ℕ)) → spaced (w ∷ ws) ≡ w ++ spaced_after ws
spaced_first w [] = sym (append-nil w)
spaced_first w (v ∷ ws) = ap (λ rest. w ++ 32 ∷ rest) (spaced_first v ws)

-- the first word is written
pub first_written : (a b : Option (List ℕ)) (w : List ℕ) (ws all : List (List ℕ)) → all ≡ w ∷ ws → Appends a b w → Appends a (append_known b (spaced_after ws)) (spaced all)
first_written None b w ws all is p = tt
first_written (Some x) None w ws all is p = absurd p
first_written (Some x) (Some y) w ws all is p =
    ap (λ bs. bs ++ spaced_after ws) p ∙ append_assoc x w (spaced_after ws) ∙ ap (λ bs. x ++ bs) (sym (spaced_first w ws) ∙ ap spaced (sym is))

-- one word more is written, after a space
pub next_written : (a b c d : Option (List ℕ)) (w : List ℕ) (ws left : List (List ℕ)) (whole : List ℕ) → Appends a (append_known b (spaced_after left)) whole → left ≡ w ∷ ws
    → Appends b c (32 ∷ []) → Appends c d w → Appends a (append_known d (spaced_after ws)) whole
next_written None b c d w ws left whole so_far is p q = tt
next_written (Some x) None c d w ws left whole so_far is p q = absurd so_far
next_written (Some x) (Some y) None d w ws left whole so_far is p q = absurd p
next_written (Some x) (Some y) (Some z) None w ws left whole so_far is p q = absurd q
next_written (Some x) (Some y) (Some z) (Some u) w ws left whole so_far is p q =
    ap (λ bs. bs ++ spaced_after ws) (q ∙ ap (λ bs. bs ++ w) p ∙ append_assoc y (32 ∷ []) w) ∙ append_assoc y (32 ∷ w) (spaced_after ws)
    ∙ ap (λ vs. y ++ spaced_after vs) (sym is) ∙ so_far

-- no word is left
pub all_written : (a b : Option (List ℕ)) (left : List (List ℕ)) (whole : List ℕ) → Appends a (append_known b (spaced_after left)) whole → left ≡ [] → Appends a b whole
all_written None b left whole so_far none = tt
all_written (Some x) None left whole so_far none = absurd so_far
all_written (Some x) (Some y) left whole so_far none = sym (append-nil y) ∙ ap (λ vs. y ++ spaced_after vs) (sym none) ∙ so_far
