-- What an iterator gives that shows what it has left.
use Rattle.std.proofs.Common.{◌≡◌, List, [], ◌∷◌, ap, ◌∙◌}
use Rattle.std.specs.Iterator.{YieldsFirst, Drains}

pub drained : {S A : Type 0} (rest : S → List A) (s : S) (xs : List A) → Drains (YieldsFirst rest) s xs → rest s ≡ xs
drained rest s [] d = ap rest d.1.1 ∙ d.1.2.0
drained rest s (x ∷ xs) d = d.1.1.1 ∙ ap (λ ys. x ∷ ys) (drained rest d.1.1.0 xs (d.0, (d.1.0, d.1.1.2, d.1.2)))
