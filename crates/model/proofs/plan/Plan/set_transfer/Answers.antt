use Rattle.std.proofs.lemmas.List.{map-set}
use Rattle.model.proofs.plan.Plan.set_transfer.Goals as goal

pub returns-clause-plan : goal.returns-clause-plan
returns-clause-plan c = simp map-set
