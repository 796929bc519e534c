use Rattle.std.proofs.Common.{◌≡◌, length}
use Rattle.session.specs.Sessions.{gathering}
use Rattle.session.specs.Settings.{setting_of, no_setting}
use Rattle.session.specs.Statements.{to_come}
use Rattle.session.proofs.follow.gather.Given as goal

abbrev pub invariant-loop-line : goal.invariant-loop-line
invariant-loop-line l = gathering (setting_of l.setting) (to_come l.reader) ≡ gathering no_setting (to_come l.initial.reader)

abbrev pub decreases-loop-line : goal.decreases-loop-line
decreases-loop-line l = length (to_come l.reader)
