use Rattle.marker.proofs.Rows.{blank_at}
use Rattle.marker.proofs.legs.LegTable.blank.Goals as goal

pub returns : goal.returns
returns c = λ i k. blank_at 224 15 i k
