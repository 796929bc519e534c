-- A timetable that ends early.
use Rattle.std.proofs.Common.{arith}
use Rattle.std.specs.Prelude.{ℕ, min, ◌≤◌}
use Rattle.timetable.specs.Tables.{Table}

-- the table whose bookings end by a tick
abbrev pub until : ℕ → Table → Table
until h T = record T { horizon = min h T.horizon }

-- it ends no later than the whole one may
pub short_horizon : (h : ℕ) (T : Table) → T.horizon ≤ 2000000000 → (until h T).horizon ≤ 2000000000
short_horizon h T few = omega (arith, few)
