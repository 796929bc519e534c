use Rattle.planner.proofs.Refusing.{refused_changes_nothing, disorder_comes_first}
use Rattle.planner.proofs.laws.refusal_laws.Goals as goal

pub returns-clause-changes_nothing : goal.returns-clause-changes_nothing
returns-clause-changes_nothing c = refused_changes_nothing

pub returns-clause-disorder_first : goal.returns-clause-disorder_first
returns-clause-disorder_first c = disorder_comes_first
