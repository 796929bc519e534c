-- Routes that are written in a table: why a table is refused, and which routes it says.
-- This file does not name `WrittenRoutes`, whose ghost field cites it.
use Rattle.std.specs.Prelude.{ℕ, ◌+◌, ◌*◌, Bool, false, if◌then◌else◌, not, ◌&&◌, List, map, length, Some, None, vec_items, Option, Vec, ◌==◌, nat_lt}
use Rattle.std.specs.Option.{option_map}
use Rattle.std.specs.List.{slice_get}
use Rattle.model.specs.Data.{NetData, station_count}
use Rattle.model.specs.Lowest.{lowest}
use Rattle.model.specs.declared.refusal.Refusal.{Refusal}
use Rattle.model.specs.declared.refusal.Refusal.TheVariants.{BadRoute}
use Rattle.routes.specs.Walks.{is_route}
use Rattle.routes.specs.declared.hop.Hop.{Hop}

-- the rows of a table, each as a list of hops or none
abbrev pub rows_of : {Y : Type 0} → List (Option (Vec Hop Y)) → List (Option (List Hop))
rows_of rows = map (option_map vec_items) rows

-- the row of a pair of stations, by rising origin, then goal; a table that is too short has none
abbrev pub row_at : NetData → List (Option (List Hop)) → ℕ → ℕ → Option (Option (List Hop))
row_at N rows s t = slice_get rows (station_count N * s + t)

-- whether a row keeps the law of its pair: empty from a station to itself, else none or a route
abbrev pub keeps_law : NetData → ℕ → ℕ → Option (List Hop) → Bool
keeps_law N s t None = not (s == t)
keeps_law N s t (Some hops) = if s == t then length hops == 0 else is_route N s t hops

abbrev pub is_kept : NetData → ℕ → ℕ → Option (Option (List Hop)) → Bool
is_kept N s t None = false
is_kept N s t (Some row) = keeps_law N s t row

-- what is wrong with the row of a pair: it is missing, or breaks a law
abbrev pub row_refusal : NetData → List (Option (List Hop)) → ℕ → ℕ → Option Refusal
row_refusal N rows s t = if is_kept N s t (row_at N rows s t) then None else Some (BadRoute (16 * s + t))

-- the lowest goal from one origin, and the lowest origin
abbrev pub origin_refusal : NetData → List (Option (List Hop)) → ℕ → Option Refusal
origin_refusal N rows s = lowest (row_refusal N rows s) (station_count N)

abbrev pub written_refusal : NetData → List (Option (List Hop)) → Option Refusal
written_refusal N rows = lowest (origin_refusal N rows) (station_count N)

abbrev pub route_in : Option (Option (List Hop)) → Option (List Hop)
route_in None = None
route_in (Some row) = row

-- the route from s to t that the table says; there is none from or to an unknown station
abbrev pub written_route : NetData → List (Option (List Hop)) → ℕ → ℕ → Option (List Hop)
written_route N rows s t =
    if nat_lt s (station_count N) && nat_lt t (station_count N) then route_in (row_at N rows s t) else None
