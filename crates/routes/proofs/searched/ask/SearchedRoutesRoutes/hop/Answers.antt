-- What is settled from a station can be walked back from, and says the routes from it.
use Rattle.std.proofs.Common.{sym, subst}
use Rattle.model.specs.Data.{net_of}
use Rattle.routes.specs.Origins.{HasOrigins}
use Rattle.routes.proofs.BackWays.{known_origins}
use Rattle.routes.proofs.searched.ask.SearchedRoutesRoutes.hop.Goals as goal

pub hop_among-requires : goal.hop_among-requires
hop_among-requires g c =
    subst HasOrigins (sym c.settled_from.ensures)
    (known_origins g.L.Rank.before g.L.Length.longer (net_of c.args.self.now.network) g.L.Length.starting g.met.L.Rank.order c.args.from)
