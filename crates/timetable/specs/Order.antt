-- The order of bookings that do not collide.
use Rattle.std.specs.Prelude.{Bool, ◌&&◌, ◌||◌, ◌==◌, nat_lt, nat_le}
use Rattle.model.specs.Bookings.{end}
use Rattle.model.specs.declared.booking.Booking.{Booking}

-- a is of a lower resource, or of the same and over by the start of b
abbrev pub precedes : Booking → Booking → Bool
precedes a b = nat_lt a.resource b.resource || a.resource == b.resource && nat_le (end a) b.start
