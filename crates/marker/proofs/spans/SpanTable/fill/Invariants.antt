use Rattle.std.proofs.Common.{◌≡◌, ℕ, ◌<◌, ◌≤◌, length, get_or, []}
use Rattle.marker.specs.Spans.{ColumnTells, IsBlankColumn}
use Rattle.marker.proofs.spans.SpanTable.fill.Given as goal

abbrev pub invariant-loop-l : goal.invariant-loop-l
invariant-loop-l l = (length l.self.columns ≡ 32) × ((k : ℕ) → k < l.l → ColumnTells (get_or l.self.columns k []) l.legs k) × ((k : ℕ) → l.l ≤ k → k < 32 → IsBlankColumn (get_or l.self.columns k []))
