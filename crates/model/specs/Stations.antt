-- Sets of station numbers.
use Rattle.std.specs.Prelude.{ℕ, ◌+◌, Bool, true, false, if◌then◌else◌, ◌||◌, List, [], ◌∷◌, drop, replicate, nat_lt, slice_index_or, slice_set}
use Rattle.model.specs.declared.stations.StationSet.{StationSet}

abbrev pub no_stations : StationSet
no_stations = record { members = replicate 16 false; beyond = false }

abbrev pub has_station : StationSet → ℕ → Bool
has_station s n = slice_index_or s.members n false

-- the set with one number more
abbrev pub with_station : StationSet → ℕ → StationSet
with_station s n =
    if nat_lt n 16
    then record { members = slice_set s.members n true; beyond = s.beyond }
    else record { members = s.members; beyond = true }

abbrev pub count_true : List Bool → ℕ
count_true [] = 0
count_true (b ∷ bs) = (if b then 1 else 0) + count_true bs

-- how many of the numbers 0 to 15 are in the set
abbrev pub station_total : StationSet → ℕ
station_total s = count_true s.members

-- the set has a number that is not below n
abbrev pub names_from : ℕ → StationSet → Bool
names_from n s = s.beyond || nat_lt 0 (count_true (drop n s.members))
