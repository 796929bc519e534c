-- The earliest start at which a resource is free.
use Rattle.std.specs.Prelude.{ℕ, min, ◌&&◌, List, [], ◌∷◌, map, filter, Some, None, Option, nat_le}
use Rattle.model.specs.Bookings.{end}
use Rattle.timetable.specs.Tables.{Table, bookings_of, free}

-- the least of some numbers; none of no number
abbrev pub lesser : ℕ → Option ℕ → ℕ
lesser x None = x
lesser x (Some y) = min x y

abbrev pub least : List ℕ → Option ℕ
least [] = None
least (x ∷ xs) = Some (lesser x (least xs))

-- the starts to try: the tick that is asked from, and where a booking of the resource ends
abbrev pub starts_to_try : Table → ℕ → ℕ → List ℕ
starts_to_try T r from = from ∷ map end (bookings_of T r)

-- the earliest start at or after `from` where resource r is free for d ticks
unfoldable pub earliest : Table → ℕ → ℕ → ℕ → Option ℕ
earliest T r from d = least (filter (λ s. nat_le from s && free T r s d) (starts_to_try T r from))
