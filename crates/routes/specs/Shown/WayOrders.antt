-- Proof that the order of ways is total; no definition to read stands here.
use Rattle.std.specs.Prelude.{◌≡◌, Bool, true, false}
use Rattle.std.proofs.Common.{arith}
use Rattle.std.proofs.lemmas.Bool.Decides.{nat_tests}
use Rattle.queue.specs.Orders.{IsStrictTotalOrder}
use Rattle.routes.specs.WayOrder.{lower_way, way_before}
use Rattle.routes.specs.declared.settled.Settled.{Settled}

lower_asymmetric : {X : Type 0} (a b : Settled X) → lower_way a b ≡ true → lower_way b a ≡ false
unfolding lower_way
lower_asymmetric a b h = grind (arith, nat_tests)

lower_transitive : {X : Type 0} (a b c : Settled X) → lower_way a b ≡ false → lower_way b c ≡ false → lower_way a c ≡ false
unfolding lower_way
lower_transitive a b c h g = grind (arith, nat_tests)

-- ways of which neither is lower have the same numbers
record SameNumbers {X : Type 0} (a b : Settled X) : Type 0 where
  station : a.station ≡ b.station
  from : a.from ≡ b.from
  link : a.link ≡ b.link
  hops : a.hops ≡ b.hops

same_numbers : {X : Type 0} (a b : Settled X) → lower_way a b ≡ false → lower_way b a ≡ false → SameNumbers a b
unfolding lower_way
same_numbers a b h g = record {
  station = grind (arith, nat_tests);
  from = grind (arith, nat_tests);
  link = grind (arith, nat_tests);
  hops = grind (arith, nat_tests);
}

-- ways of the same numbers and one length are the same
same_way : {X : Type 0} (a b : Settled X) → a.distance ≡ b.distance → SameNumbers a b → a ≡ b
same_way a b d n = λ i. record { station = n.station i; distance = d i; from = n.from i; link = n.link i; hops = n.hops i }

pub way_order : {X : Type 0} (before : X → X → Bool) → IsStrictTotalOrder before → IsStrictTotalOrder (way_before before)
way_order before o = record {
  asymmetric = λ x y h. grind (arith, nat_tests, o.asymmetric, lower_asymmetric x y);
  negatively_transitive = λ x y z h g. grind (arith, nat_tests, o.asymmetric, o.negatively_transitive, lower_transitive x y z);
  alike = λ x y h g.
      let xy : before x.distance y.distance ≡ false = grind (arith, nat_tests) in
      let yx : before y.distance x.distance ≡ false = grind (arith, nat_tests) in
      let lo : lower_way x y ≡ false = grind (arith, nat_tests) in
      let hi : lower_way y x ≡ false = grind (arith, nat_tests) in
      same_way x y (o.alike _ _ xy yx) (same_numbers x y lo hi);
}
