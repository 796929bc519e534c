-- Proof that the order of waiting tasks is total; no definition to read stands here.
use Rattle.std.proofs.Common.{arith}
use Rattle.std.proofs.lemmas.Bool.Decides.{nat_tests}
use Rattle.queue.specs.Orders.{IsStrictTotalOrder}
use Rattle.planner.specs.Waits.{waits_before}

pub waits_order : IsStrictTotalOrder waits_before
waits_order = record {
  asymmetric = λ x y h. grind (arith, nat_tests);
  negatively_transitive = λ x y z h g. grind (arith, nat_tests);
  alike = λ x y h g. grind (arith, nat_tests);
}
