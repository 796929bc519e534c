-- Sets of stations that are made of lists.
use Rattle.std.proofs.Common.{◌≡◌, ℕ, List, [], ◌∷◌, refl}
use Rattle.std.specs.List.{fold}
use Rattle.model.specs.Stations.{with_station}
use Rattle.model.specs.declared.stations.StationSet.{StationSet}
use Rattle.session.specs.Settings.{with_stations}

pub with_stations_fold : (set : StationSet) (ss : List ℕ) → fold with_station set ss ≡ with_stations set ss
with_stations_fold set [] = refl
with_stations_fold set (s ∷ ss) = with_stations_fold (with_station set s) ss
