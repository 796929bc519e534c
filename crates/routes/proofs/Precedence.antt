-- When a way is not before another.
use Rattle.std.proofs.Common.{◌≡◌, ℕ, ◌<◌, ◌≤◌, Bool, false, ⊎_elim, arith}
use Rattle.std.proofs.lemmas.Bool.{cases_Bool, cases_lt}
use Rattle.std.proofs.lemmas.Bool.Decides.{nat_tests}
use Rattle.routes.specs.WayOrder.{lower_way, way_before}
use Rattle.routes.specs.declared.settled.Settled.{Settled}

pub not_below : (a b : ℕ) → (a < b → ⊥) → b ≤ a
not_below a b h = ⊎_elim (λ less. absurd (h less)) (λ le. le) (cases_lt a b)

-- a way that is neither better nor lower is not before
pub not_before : {X : Type 0} (before : X → X → Bool) (a b : Settled X) → before a.distance b.distance ≡ false → (before b.distance a.distance ≡ false → lower_way a b ≡ false) → way_before before a b ≡ false
not_before before a b no_better no_lower =
    ⊎_elim (λ worse. grind (arith, nat_tests)) (λ not_worse. let h = no_lower not_worse in grind (arith, nat_tests)) (cases_Bool (before b.distance a.distance))

pub not_lower : {X : Type 0} (a b : Settled X) → b.station ≤ a.station → (b.station ≡ a.station → b.from ≤ a.from) → (b.station ≡ a.station → b.from ≡ a.from → b.link ≤ a.link) → (b.from ≡ a.from → b.hops ≡ a.hops) → lower_way a b ≡ false
unfolding lower_way
not_lower a b station from link hops = grind (arith, nat_tests)
