-- Limits of single values, and how long an amount takes at a speed.
use Rattle.std.specs.Prelude.{ℕ, ◌+◌, ◌-◌, ◌*◌, ◌/◌, ◌≤◌, Bool, ◌&&◌, nat_le}
use Rattle.model.specs.declared.speed.Speed.{Speed}

abbrev pub within : ℕ → ℕ → ℕ → Bool
within low high n = nat_le low n && nat_le n high

-- a task's work, and an edge's volume
abbrev pub amount_ok : ℕ → Bool
amount_ok a = within 1 1000000 a

abbrev pub speed_ok : Speed → Bool
speed_ok v = within 1 1000 v.rate

-- an amount at a speed, in ticks, rounded up
unfoldable pub ticks : ℕ → Speed → ℕ
ticks amount v = (amount + (v.rate - 1)) / v.rate

-- n ticks are enough for the amount, and one fewer is not
pub record RoundedUp (amount : ℕ) (v : Speed) (n : ℕ) : Type 0 where
  pub enough : amount ≤ n * v.rate
  pub fewest : (m : ℕ) → amount ≤ m * v.rate → n ≤ m
