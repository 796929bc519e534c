use Rattle.std.proofs.Common.{arith, length, ap}
use Rattle.session.proofs.Reading.{few_lines}
use Rattle.session.proofs.reader.Reader.new.Goals as goal

pub invariant_of-result : goal.invariant_of-result
invariant_of-result c = record { counted = let h = c.type_inv.text in omega (arith, ap length c.new.ensures.left, few_lines c.args.text.now) }
