-- Orders, given by the test that says whether one value is before another.
use Rattle.std.specs.Prelude.{◌≡◌, Bool, true, false, List, All, Contains}

-- a strict total order
pub record IsStrictTotalOrder {X : Type 0} (before : X → X → Bool) : Type 0 where
  -- of two values at most one is before the other
  pub asymmetric : (x y : X) → before x y ≡ true → before y x ≡ false
  -- where x is not before y, nor y before z, x is not before z
  pub negatively_transitive : (x y z : X) → before x y ≡ false → before y z ≡ false → before x z ≡ false
  -- two values of which neither is before the other are the same
  pub alike : (x y : X) → before x y ≡ false → before y x ≡ false → x ≡ y

-- x is one of xs, and none of xs is before it
pub record IsFirst {X : Type 0} (before : X → X → Bool) (xs : List X) (x : X) : Type 0 where
  pub held : Contains xs x
  pub none_before : All (λ y. before y x ≡ false) xs
