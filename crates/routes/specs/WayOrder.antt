-- The order in which the search takes ways that wait.
use Rattle.std.specs.Prelude.{Bool, not, ◌&&◌, ◌||◌, ◌==◌, nat_lt}
use Rattle.routes.specs.declared.settled.Settled.{Settled}

-- the lower station first, then the way that goes on from the station settled first, then the lower link
unfoldable pub lower_way : {X : Type 0} → Settled X → Settled X → Bool
lower_way a b =
    nat_lt a.station b.station
    || a.station == b.station
    && (nat_lt a.from b.from || a.from == b.from && (nat_lt a.link b.link || a.link == b.link && nat_lt a.hops b.hops))

-- the better length first, and of equal ones the lower way
abbrev pub way_before : {X : Type 0} → (X → X → Bool) → Settled X → Settled X → Bool
way_before before a b = before a.distance b.distance || not (before b.distance a.distance) && lower_way a b
