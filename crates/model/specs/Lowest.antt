-- The answer of the lowest number that has one.
use Rattle.std.specs.Prelude.{ℕ, zero, suc, None, Option}
use Rattle.model.specs.Refusals.{or_else}

-- of the numbers below n
unfoldable pub lowest : {A : Type 0} → (ℕ → Option A) → ℕ → Option A
lowest f zero = None
lowest f (suc n) = let last = f n in or_else (lowest f n) last
