-- When the bookings of a table keep out of each other's way.
use Rattle.std.specs.Prelude.{AllPairs}
use Rattle.timetable.specs.Apart.{Apart}
use Rattle.timetable.specs.Tables.{Table}

-- no two bookings, at two places of the list, are of one resource and share a tick
unfoldable pub Sound : Table → Type 0
Sound T = AllPairs Apart T.bookings
