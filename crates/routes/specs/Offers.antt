-- What the steps of the search do.
use Rattle.std.specs.Prelude.{ℕ, Bool, if◌then◌else◌, List, [], Some, None, Option}
use Rattle.std.specs.Option.{option_to_list}
use Rattle.std.specs.List.{flat_map, range_with_len}
use Rattle.model.specs.Data.{NetData, station_count}
use Rattle.model.specs.declared.network.Link.{Link}
use Rattle.routes.specs.Search.{shortest, is_settled, ways_from}
use Rattle.routes.specs.declared.settled.Settled.{Settled}

-- of the best way so far and one more, y, the better; the former where neither is
abbrev pub later : {X : Type 0} → (X → X → Bool) → Settled X → Option (Settled X) → Settled X
later before y None = y
later before y (Some x) = if before y.distance x.distance then y else x

-- the best way from u, which is settled at place i, to t, unless t is settled or no link leads there
abbrev pub offer_to : {X : Type 0} → (X → X → Bool) → (X → Link → X) → NetData → List (Settled X) → ℕ × Settled X → ℕ → List (Settled X)
offer_to before longer N us u t = if is_settled us t then [] else option_to_list (shortest before (ways_from before longer N t u))

-- the same to each of the first n stations
abbrev pub offers_below : {X : Type 0} → (X → X → Bool) → (X → Link → X) → NetData → List (Settled X) → ℕ × Settled X → ℕ → List (Settled X)
offers_below before longer N us u n = flat_map (offer_to before longer N us u) (range_with_len 0 n)

-- the same to every station
abbrev pub offers : {X : Type 0} → (X → X → Bool) → (X → Link → X) → NetData → List (Settled X) → ℕ × Settled X → List (Settled X)
offers before longer N us u = offers_below before longer N us u (station_count N)
