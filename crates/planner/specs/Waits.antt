-- Tasks that wait to be placed.
use Rattle.std.specs.Prelude.{ℕ, Bool, ◌&&◌, ◌||◌, ◌==◌, nat_lt}
use Rattle.planner.specs.declared.waiting.Waiting.{Waiting}

-- the higher level first, and of one level the lower task
abbrev pub waits_before : Waiting → Waiting → Bool
waits_before a b = nat_lt b.level a.level || (a.level == b.level && nat_lt a.task b.task)

-- task t with its priority as its level
abbrev pub waiting_by : (ℕ → ℕ) → ℕ → Waiting
waiting_by priority t = record { level = priority t; task = t }
