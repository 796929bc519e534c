-- How many binary digits a number has: the measures of the sifts, so that each takes no more steps than that.
use Rattle.std.proofs.Common.{ℕ, zero, suc, ◌+◌, ◌/◌, ◌<◌, ◌≤◌, arith}

digits_within : ℕ → ℕ → ℕ
digits_within zero n = 0
digits_within (suc most) zero = 0
digits_within (suc most) (suc n) = 1 + digits_within most (suc n / 2)

-- how many binary digits n has
pub digits : ℕ → ℕ
digits n = digits_within n n

digits_within_le : (most less a b : ℕ) → a ≤ less → b ≤ most → a ≤ b → digits_within less a ≤ digits_within most b
unfolding digits_within
digits_within_le most zero a b p q r = omega arith
digits_within_le most (suc less) zero b p q r = omega arith
digits_within_le zero (suc less) (suc a) b p q r = absurd (omega arith)
digits_within_le (suc most) (suc less) (suc a) zero p q r = absurd (omega arith)
digits_within_le (suc most) (suc less) (suc a) (suc b) p q r =
    omega (arith, digits_within_le most less (suc a / 2) (suc b / 2) (omega arith) (omega arith) (omega arith))

-- at most half as much has fewer digits
pub digits_half : (a b : ℕ) → a ≤ b / 2 → 0 < b → digits a < digits b
unfolding digits digits_within
digits_half a zero p q = absurd (omega arith)
digits_half a (suc b) p q = omega (arith, digits_within_le b a a (suc b / 2) (omega arith) (omega arith) p)
