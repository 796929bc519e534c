-- What a timetable means, and when a resource of it is free.
use Rattle.std.specs.Prelude.{ℕ, ◌+◌, Bool, not, ◌&&◌, List, [], filter, ◌==◌, nat_le}
use Rattle.std.specs.List.{list_any}
use Rattle.model.specs.Bookings.{collide}
use Rattle.model.specs.declared.booking.Booking.{Booking}

-- a horizon, how many bookings there may be, and the bookings in the order they were made
pub record Table : Type 0 where
  pub horizon : ℕ
  pub most : ℕ
  pub bookings : List Booking

abbrev pub empty_table : ℕ → ℕ → Table
empty_table horizon most = record { horizon = horizon; most = most; bookings = [] }

abbrev pub bookings_of : Table → ℕ → List Booking
bookings_of T r = filter (λ b. b.resource == r) T.bookings

-- resource r taken from s for d ticks
abbrev pub span : ℕ → ℕ → ℕ → Booking
span r s d = record { resource = r; start = s; length = d }

-- resource r is free from s for d ticks: it is at least one tick, they end by the horizon, there is such a resource, and no booking of it has one of them
unfoldable pub free : Table → ℕ → ℕ → ℕ → Bool
free T r s d = nat_le 1 d && nat_le (s + d) T.horizon && nat_le r 47 && not (list_any (collide (span r s d)) T.bookings)
