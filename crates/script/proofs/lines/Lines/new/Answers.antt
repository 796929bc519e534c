-- The lines of the text split it.
use Rattle.script.proofs.Unlined.{lines_split}
use Rattle.script.proofs.lines.Lines.new.Goals as goal

pub returns-clause-splits : goal.returns-clause-splits
returns-clause-splits c = lines_split c.args.text.now
