use Rattle.planner.proofs.KeptOrder.{placing_keeps_order}
use Rattle.planner.proofs.PlaceUndone.{take_back_undoes_place}
use Rattle.planner.proofs.laws.undo_laws.Goals as goal

pub returns-clause-keeps_order : goal.returns-clause-keeps_order
returns-clause-keeps_order c = placing_keeps_order

pub returns-clause-undoes : goal.returns-clause-undoes
returns-clause-undoes c = take_back_undoes_place
