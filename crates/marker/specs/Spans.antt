-- A table of the spans of transfers on links, a column for each link: what it says, and what is looked up in it.
use Rattle.std.specs.Prelude.{◌≡◌, ℕ, ◌+◌, ◌-◌, ◌<◌, Bool, true, ◌&&◌, List, [], drop, Some, None, Option, ◌==◌, nat_lt, slice_index_or}
use Rattle.std.specs.Option.{option_to_list}
use Rattle.std.specs.List.{slice_get, find, flat_map, list_any}
use Rattle.model.specs.Bookings.{link_resource}
use Rattle.model.specs.declared.booking.Booking.{Booking}
use Rattle.marker.specs.declared.legs.LegTable.{LegTable}
use Rattle.marker.specs.declared.spans.Span.{Span}
use Rattle.marker.specs.declared.spans.SpanTable.{SpanTable}

-- the ticks of a booking, and none where there is no booking
abbrev pub span_of : Option Booking → Span
span_of None = record { start = 0; length = 0 }
span_of (Some b) = record { start = b.start; length = b.length }

-- the ticks of the first booking of a row that is on link l
abbrev pub span_in : List (Option Booking) → ℕ → Span
span_in row l = span_of (find (λ b. b.resource == link_resource l) (flat_map option_to_list row))

-- the column has no span
abbrev pub IsBlankColumn : List Span → Type 0
IsBlankColumn column = (j : ℕ) → j < 224 → slice_get column j ≡ Some (span_of None)

-- nor has a column of the table
abbrev pub AreBlank : SpanTable → Type 0
AreBlank S = (l : ℕ) (column : List Span) → slice_get S.columns l ≡ Some column → IsBlankColumn column

-- the column has the span of each edge on link l, by the legs in the table
abbrev pub ColumnTells : List Span → LegTable → ℕ → Type 0
ColumnTells column T l = (j : ℕ) → j < 224 → slice_get column j ≡ Some (span_in (slice_index_or T.rows j []) l)

-- so has each column of the table of spans
abbrev pub SpansTell : SpanTable → LegTable → Type 0
SpansTell S T = (l : ℕ) (column : List Span) → slice_get S.columns l ≡ Some column → ColumnTells column T l

-- each of two spans starts before the other ends, as any two do that share a tick
abbrev pub overlaps : Span → Span → Bool
overlaps s t = nat_lt s.start (t.start + t.length) && nat_lt t.start (s.start + s.length)

-- a span that stands after place i of the column overlaps the booking; where there is no column that is not ruled out
abbrev pub overlapped_in : Option (List Span) → ℕ → Booking → Bool
overlapped_in None i b = true
overlapped_in (Some column) i b = list_any (λ s. overlaps s (span_of (Some b))) (drop 1 (drop i column))

-- the same of the column of the booking's link
abbrev pub overlapped : SpanTable → ℕ → Booking → Bool
overlapped S i b = overlapped_in (slice_get S.columns (b.resource - 16)) i b
