use Rattle.std.proofs.Common.{◌≡◌, ℕ, ◌<◌, ◌≤◌, length, get_or, []}
use Rattle.marker.specs.Spans.{span_in}
use Rattle.marker.proofs.Overlaps.{no_span}
use Rattle.marker.proofs.spans.fill_column.Given as goal

abbrev pub invariant-loop-j : goal.invariant-loop-j
invariant-loop-j l = (length l.column ≡ 224) × ((j : ℕ) → j < l.j → get_or l.column j no_span ≡ span_in (get_or l.legs.rows j []) l.l) × ((j : ℕ) → l.j ≤ j → j < 224 → get_or l.column j no_span ≡ no_span)
