use Rattle.planner.proofs.Asking.{answered_is_taken}
use Rattle.planner.proofs.laws.booking_law.Goals as goal

pub returns : goal.returns
returns c = answered_is_taken
