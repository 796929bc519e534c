-- The row of a station holds the search from it.
use Rattle.std.proofs.Common.{subst, rules}
use Rattle.std.specs.Slice.{IsItemAt}
use Rattle.model.specs.Data.{net_of}
use Rattle.routes.proofs.FromEach.{row_read}
use Rattle.routes.proofs.searched.SearchedRoutes.settled_from.Goals as goal

pub returns : goal.returns
returns g c =
    let r = c.args.self.now in
    row_read g.L.Rank.before g.L.Length.longer g.L.Length.starting (net_of r.network) r.settled.items r.told c.args.from c.get.result c.map_or.result.now
    (subst (λ ws. IsItemAt ws c.args.from c.get.result) c.deref.ensures.value c.get.ensures.lookup) (search rules)
