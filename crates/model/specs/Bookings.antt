-- Bookings of resources, and when two of them are in each other's way.
use Rattle.std.specs.Prelude.{ℕ, ◌+◌, ◌<◌, min, max, Bool, ◌&&◌, ◌==◌, nat_lt}
use Rattle.model.specs.declared.booking.Booking.{Booking}

abbrev pub link_resource : ℕ → ℕ
link_resource l = 16 + l

-- the first tick after a booking
abbrev pub end : Booking → ℕ
end b = b.start + b.length

-- a span of d ticks from s and one of d' ticks from s' have a tick in common
abbrev pub Share : ℕ → ℕ → ℕ → ℕ → Type 0
Share s d s' d' = max s s' < min (s + d) (s' + d')

abbrev pub shares : ℕ → ℕ → ℕ → ℕ → Bool
shares s d s' d' = nat_lt (max s s') (min (s + d) (s' + d'))

-- two bookings are of one resource and have a tick in common
abbrev pub collide : Booking → Booking → Bool
collide a b = a.resource == b.resource && shares a.start a.length b.start b.length

-- two bookings are of the same resource, start and length
abbrev pub is_same : Booking → Booking → Bool
is_same a b = a.resource == b.resource && a.start == b.start && a.length == b.length
