-- When two bookings are in each other's way, in words.
use Rattle.std.specs.Prelude.{◌≡◌, ℕ, ◌<◌, ◌≤◌}
use Rattle.model.specs.Bookings.{end}
use Rattle.model.specs.declared.booking.Booking.{Booking}

-- tick t is one of the booking's
abbrev pub HasTick : Booking → ℕ → Type 0
HasTick b t = (b.start ≤ t) × (t < end b)

-- two bookings are of one resource and share a tick
abbrev pub Meet : Booking → Booking → Type 0
Meet a b = (a.resource ≡ b.resource) × ((t : ℕ) × HasTick a t × HasTick b t)

abbrev pub Apart : Booking → Booking → Type 0
Apart a b = ¬ (Meet a b)
