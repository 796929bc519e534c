use Rattle.certificate.proofs.Drawns.{every_drawn_plan}
use Rattle.certificate.proofs.laws.drawn_plans_are_certified.Goals as goal

pub returns : goal.returns
returns c = every_drawn_plan
