-- The hops that are written for pairs of stations, as the list of all pairs.
use Rattle.std.specs.Prelude.{ℕ, ◌/◌, ◌%◌, List, map, Option, Vec, vec_items}
use Rattle.std.specs.BTreeMap.{BTreeMap, get}
use Rattle.std.specs.List.{range_with_len}
use Rattle.std.specs.Option.{option_map}
use Rattle.std.specs.Ordering.{nat_cmp, ordering_then}
use Rattle.std.specs.declared.cmp.Ordering.{Ordering}
use Rattle.routes.specs.declared.hop.Hop.{Hop}

-- pairs are ordered by their first number, then by their second
abbrev pub pair_cmp : ℕ × ℕ → ℕ × ℕ → Ordering
pair_cmp p q = ordering_then (nat_cmp p.0 q.0) (nat_cmp p.1 q.1)

-- the hops that are written for the stations s and t
abbrev pub hops_between : {Y : Type 0} → BTreeMap (ℕ × ℕ) (Vec Hop Y) → ℕ → ℕ → Option (List Hop)
hops_between written s t = option_map vec_items (get pair_cmp written (s, t))

-- those of the pairs of 16 stations: of s and t at place 16 × s + t
unfoldable pub pairs_of : {Y : Type 0} → BTreeMap (ℕ × ℕ) (Vec Hop Y) → List (Option (List Hop))
pairs_of written = map (λ place. hops_between written (place / 16) (place % 16)) (range_with_len 0 256)
