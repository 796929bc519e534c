-- Proofs of the laws of the two kinds of length; no definition to read stands here.
use Rattle.std.proofs.Common.{arith}
use Rattle.std.proofs.lemmas.Bool.Decides.{nat_tests}
use Rattle.queue.specs.Orders.{IsStrictTotalOrder}
use Rattle.routes.specs.Kinds.{fewer, one_hop_more, faster, slower_by}
use Rattle.routes.specs.LengthLaws.{LengthLaws}

pub fewer_order : IsStrictTotalOrder fewer
fewer_order = record {
  asymmetric = λ x y h. grind (arith, nat_tests);
  negatively_transitive = λ x y z h g. grind (arith, nat_tests);
  alike = λ x y h g. grind (arith, nat_tests);
}

pub hop_count_laws : LengthLaws fewer one_hop_more
hop_count_laws = record {
  never_better = λ x l. grind (arith, nat_tests);
  stays_so = λ x y l h. grind (arith, nat_tests);
}

pub faster_order : IsStrictTotalOrder faster
faster_order = record {
  asymmetric = λ x y h. grind (arith, nat_tests);
  negatively_transitive = λ x y z h g. grind (arith, nat_tests);
  alike = λ x y h g. grind (arith, nat_tests);
}

pub slowness_laws : LengthLaws faster slower_by
slowness_laws = record {
  never_better = λ x l. grind (arith, nat_tests);
  stays_so = λ x y l h. grind (arith, nat_tests);
}
