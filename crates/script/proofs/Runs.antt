-- The longest front of a list whose elements pass a test, element by element.
use Rattle.std.proofs.Common.{◌≡◌, ℕ, suc, ◌+◌, Bool, true, false, ◌⊎◌, List, ◌∷◌, inl, inr, one-add, ◌∙◌, ⊎_elim}
use Rattle.std.specs.List.{prefix_len}
use Rattle.std.proofs.lemmas.Bool.{cases_Bool, cond-true, cond-false}

pub run : (p : ℕ → Bool) (b : ℕ) (bs : List ℕ) → ((p b ≡ true) × (prefix_len p (b ∷ bs) ≡ suc (prefix_len p bs))) ⊎ ((p b ≡ false) × (prefix_len p (b ∷ bs) ≡ 0))
run p b bs =
    ⊎_elim
    (λ passes. inl (passes, cond-true (p b) (1 + prefix_len p bs) 0 passes ∙ one-add (prefix_len p bs)))
    (λ fails. inr (fails, cond-false (p b) (1 + prefix_len p bs) 0 fails))
    (cases_Bool (p b))
