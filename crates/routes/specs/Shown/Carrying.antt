-- Proofs on what a link carries; no definition to read stands here.
use Rattle.std.specs.Prelude.{◌≡◌, ◌≢◌, ℕ, true}
use Rattle.std.proofs.lemmas.Bool.{and_from, and_parts, not_from_false, ne_eqb}
use Rattle.model.specs.NetworkLimits.{carries}
use Rattle.model.specs.declared.network.Link.{Link}

-- a link that carries from one station, and to another, carries from the one to the other
pub carries_across : (l : Link) (a b c d : ℕ) → carries l a b ≡ true → carries l c d ≡ true → a ≢ d → carries l a d ≡ true
carries_across l a b c d from to differ =
    let sends = and_parts _ _ (and_parts _ _ from).0 in
    and_from _ _ (and_from _ _ (not_from_false _ (ne_eqb a d differ)) sends.1) (and_parts _ _ to).1
