-- Rounding up: `ticks` is the fewest ticks that are enough, and the code's quotient with its remainder.
use Rattle.std.proofs.Common.{◌≡◌, ℕ, ◌+◌, ◌-◌, ◌*◌, ◌/◌, ◌%◌, ◌<◌, ◌≤◌, min, sym, ap, subst, ◌∙◌, mul_comm, div-lt_iff_lt-mul, add-mul, mul-add, arith}
use Rattle.std.proofs.lemmas.Grind.{div_ceil_times}
use native.Mathlib.Nat.{div-zero, div-eq_of_lt-le, lt-mul-div-succ}
use Rattle.model.specs.Lengths.{ticks, RoundedUp}
use Rattle.model.specs.declared.speed.Speed.{Speed}

pub ticks_at_zero : (a : ℕ) (v : Speed) → v.rate ≡ 0 → 0 ≡ ticks a v
unfolding ticks
ticks_at_zero a v e = sym (ap (λ n. (a + (n - 1)) / n) e ∙ div-zero (a + (0 - 1)))

pub rounded_up : (a : ℕ) (v : Speed) → 1 ≤ v.rate → RoundedUp a v (ticks a v)
unfolding ticks
rounded_up a v pos =
    let s = v.rate in
    let n = (a + (s - 1)) / s in
    record {
      enough = omega (arith, lt-mul-div-succ (a + (s - 1)) {b = s} pos, mul-add s n 1, mul_comm s n);
      fewest = λ m h.
          let few : a + (s - 1) < (m + 1) * s = omega (arith, add-mul m 1 s) in
          let less : n < m + 1 = (div-lt_iff_lt-mul {k = s} {x = a + (s - 1)} {y = m + 1} pos).1 few in
          omega arith;
    }

pub ticks_ceil : (a : ℕ) (v : Speed) → 1 ≤ v.rate → a / v.rate + min 1 (a % v.rate) ≡ ticks a v
unfolding ticks
ticks_ceil a v pos =
    let s = v.rate in
    let q = a / s + min 1 (a % s) in
    let bounds = div_ceil_times a s pos in
    let low : q * s ≤ a + (s - 1) = omega (arith, bounds.1) in
    let high : a + (s - 1) < (q + 1) * s = omega (arith, bounds.0, add-mul q 1 s) in
    sym (div-eq_of_lt-le {k = q} s {m = a + (s - 1)} low high)

pub rounded_ceil : (a : ℕ) (v : Speed) → 1 ≤ v.rate → RoundedUp a v (a / v.rate + min 1 (a % v.rate))
rounded_ceil a v pos = subst (RoundedUp a v) (sym (ticks_ceil a v pos)) (rounded_up a v pos)

-- an amount never takes more ticks than there is of it
pub ticks_few : (a : ℕ) (v : Speed) → 1 ≤ v.rate → ticks a v ≤ a
ticks_few a v pos = (rounded_up a v pos).fewest a (at_least a v.rate pos)
  where
    at_least : (a s : ℕ) → 1 ≤ s → a ≤ a * s
    at_least a s h = omega (arith, mul-add a (s - 1) 1, ap (λ n. a * n) (split s h))
      where
        split : (s : ℕ) → 1 ≤ s → s ≡ (s - 1) + 1
        split s h = omega arith
