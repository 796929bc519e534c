use Rattle.marker.proofs.Overlaps.{blank_columns}
use Rattle.marker.proofs.spans.SpanTable.blank.Goals as goal

pub returns : goal.returns
returns c = λ l column e. blank_columns 32 l column e
