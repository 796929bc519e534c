use Rattle.planner.proofs.Ordered.{tested_in_words}
use Rattle.planner.proofs.laws.order_law.Goals as goal

pub returns : goal.returns
returns c = tested_in_words
