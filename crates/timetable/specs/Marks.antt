-- What the bits of a bit sheet say of its bookings.
use Rattle.std.specs.Prelude.{◌≡◌, ℕ, ◌+◌, ◌*◌, ◌/◌, ◌%◌, ◌<◌, ◌≤◌, List, count_by, slice_index}
use Rattle.std.specs.Int.{bit_at}
use Rattle.model.specs.Bookings.{end, collide}
use Rattle.model.specs.declared.booking.Booking.{Booking}
use Rattle.timetable.specs.Tables.{span}

-- tick t of resource r, where each resource has w words: bit t % 64 of word r * w + t / 64
abbrev pub tick_bit : List ℕ → ℕ → ℕ → ℕ → ℕ
tick_bit words w r t = bit_at (slice_index words (r * w + t / 64)) (t % 64)

-- how many bookings of resource r have tick t
abbrev pub takers : List Booking → ℕ → ℕ → ℕ
takers bookings r t = count_by (collide (span r t 1)) bookings

-- the bit of a tick is 1 where a booking has the tick, which one has at most, and else 0
pub record AreMarked (words : List ℕ) (w : ℕ) (bookings : List Booking) : Type 0 where
  pub each : (r t : ℕ) → r < 48 → t < 64 * w → tick_bit words w r t ≡ takers bookings r t

-- a booking has a bit for each of its ticks
abbrev pub HasBits : ℕ → Booking → Type 0
HasBits w b = (b.resource < 48) × (end b ≤ 64 * w)
