-- The orders are total.
use Rattle.std.specs.Prelude.{Bool}
use Rattle.std.proofs.Common.{arith}
use Rattle.std.proofs.lemmas.Bool.Decides.{nat_tests}
use Rattle.queue.specs.Orders.{IsStrictTotalOrder}
use Rattle.queue_tests.specs.Orders.{ready_before, arrival_before, waiting_before, ticks_below}

pub ready_order : IsStrictTotalOrder ready_before
ready_order = record {
  asymmetric = λ x y h. grind (arith, nat_tests);
  negatively_transitive = λ x y z h g. grind (arith, nat_tests);
  alike = λ x y h g. grind (arith, nat_tests);
}

pub arrival_order : IsStrictTotalOrder arrival_before
arrival_order = record {
  asymmetric = λ x y h. grind (arith, nat_tests);
  negatively_transitive = λ x y z h g. grind (arith, nat_tests);
  alike = λ x y h g. grind (arith, nat_tests);
}

-- that of stations is, where that of their lengths is
pub waiting_order : {V : Type 0} (below : V → V → Bool) → IsStrictTotalOrder below → IsStrictTotalOrder (waiting_before below)
waiting_order below o = record {
  asymmetric = λ x y h. grind (arith, nat_tests, o.asymmetric);
  negatively_transitive = λ x y z h g. grind (arith, nat_tests, o.asymmetric, o.negatively_transitive);
  alike = λ x y h g. grind (arith, nat_tests, o.alike);
}

pub ticks_order : IsStrictTotalOrder ticks_below
ticks_order = record {
  asymmetric = λ x y h. grind (arith, nat_tests);
  negatively_transitive = λ x y z h g. grind (arith, nat_tests);
  alike = λ x y h g. grind (arith, nat_tests);
}
