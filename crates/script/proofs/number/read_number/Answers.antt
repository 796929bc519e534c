-- The word spells the value, since the value is its number.
use Rattle.std.proofs.Common.{arith}
use Rattle.std.proofs.lemmas.Grind.{common_steps}
use Rattle.script.proofs.Spelled.{spells_from_number}
use Rattle.script.proofs.number.read_number.Goals as goal

pub returns-clause-spells : goal.returns-clause-spells
returns-clause-spells c = spells_from_number c.args.word.now c.loop-byte.value (grind (arith, common_steps))
