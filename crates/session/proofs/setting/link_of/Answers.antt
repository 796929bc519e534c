-- The stations of a link are those of its list, added one after the other.
use Rattle.std.proofs.Common.{Bor, ℕ, ap, ◌∙◌, rules}
use Rattle.std.proofs.lemmas.Iterator.{YieldsList-from_slice}
use Rattle.std.proofs.lemmas.Iterator.Consumers.{fold_from_yields_List}
use Rattle.model.specs.Stations.{no_stations, with_station}
use Rattle.session.proofs.Sets.{with_stations_fold}
use Rattle.session.proofs.setting.link_of.Goals as goal

pub returns : goal.returns
returns c =
    let folded = fold_from_yields_List {v = λ (y : Bor ℕ). y.now} _ with_station no_stations c.fold.result (rw c.new.ensures at c.fold.ensures.ran) (YieldsList-from_slice c.args.stations.now (cc)) (λ set s next q k. search rules) in
    ap (λ set. record { stations = set; speed = record { rate = c.args.speed } }) (folded ∙ with_stations_fold no_stations c.args.stations.now)
