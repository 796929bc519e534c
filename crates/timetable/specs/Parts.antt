-- A list that is a part of another.
use Rattle.std.specs.Prelude.{List, [], ◌∷◌}

-- xs is ys with some of its elements left out, in the same order
pub data IsPart {X : Type 0} : List X → List X → Type 0 where
  nothing : IsPart [] []
  kept : {x : X} {xs ys : List X} → IsPart xs ys → IsPart (x ∷ xs) (x ∷ ys)
  left_out : {y : X} {xs ys : List X} → IsPart xs ys → IsPart xs (y ∷ ys)
