-- What searched routes keep: the search from each station of their network.
use Rattle.std.specs.Prelude.{◌≡◌, Bool, List, map, vec_items, Vec}
use Rattle.std.specs.List.{range_with_len}
use Rattle.model.specs.Data.{NetData, station_count}
use Rattle.model.specs.declared.network.Link.{Link}
use Rattle.routes.specs.Search.{search_order}
use Rattle.routes.specs.declared.settled.Settled.{Settled}

-- the stations settled from each station of the network, by rising station
abbrev pub searches : {X : Type 0} → (X → X → Bool) → (X → Link → X) → X → NetData → List (List (Settled X))
searches before longer start N = map (search_order before longer N start) (range_with_len 0 (station_count N))

abbrev pub TellsSearch : {X Y : Type 0} → (X → X → Bool) → (X → Link → X) → X → NetData → List (Vec (Settled X) Y) → Type 0
TellsSearch before longer start N rows = map vec_items rows ≡ searches before longer start N
