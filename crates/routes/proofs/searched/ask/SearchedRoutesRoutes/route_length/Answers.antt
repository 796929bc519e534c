-- The station that is found notes how many hops lead there.
use Rattle.std.proofs.Common.{ap, ◌∙◌, rules}
use Rattle.std.specs.Prelude.{◌==◌}
use Rattle.std.specs.List.{find}
use Rattle.model.specs.Data.{net_of}
use Rattle.routes.proofs.BackWays.{length_read}
use Rattle.routes.proofs.searched.ask.SearchedRoutesRoutes.route_length.Goals as goal

pub returns : goal.returns
returns g c =
    length_read g.L.Rank.before g.L.Length.longer (net_of c.args.self.now.network) g.L.Length.starting g.met.L.Rank.order c.args.from c.args.to c.settled_at.result c.map.result
    (c.settled_at.ensures ∙ ap (find (λ u. u.station == c.args.to)) c.settled_from.ensures) (search rules)
