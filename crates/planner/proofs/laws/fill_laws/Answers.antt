use Rattle.planner.proofs.BottomLevels.{bottom_level_in_words}
use Rattle.planner.proofs.FirstFinishes.{placed_where_first, refused_by_all}
use Rattle.planner.proofs.Priorities.{fill_takes_in_order}
use Rattle.planner.proofs.ReadyTasks.{bottom_levels_fall, taken_when_ready}
use Rattle.planner.proofs.laws.fill_laws.Goals as goal

pub returns-clause-bottom_level : goal.returns-clause-bottom_level
returns-clause-bottom_level c = bottom_level_in_words

pub returns-clause-falls : goal.returns-clause-falls
returns-clause-falls c = bottom_levels_fall

pub returns-clause-order : goal.returns-clause-order
returns-clause-order c = fill_takes_in_order

pub returns-clause-ready : goal.returns-clause-ready
returns-clause-ready c = taken_when_ready

pub returns-clause-place : goal.returns-clause-place
returns-clause-place c = placed_where_first

pub returns-clause-refusal : goal.returns-clause-refusal
returns-clause-refusal c = refused_by_all
