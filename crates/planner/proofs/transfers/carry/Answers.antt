use Rattle.std.proofs.Common.{sym, subst}
use Rattle.model.specs.Data.{net_of}
use Rattle.model.proofs.Networks.{of_network}
use Rattle.planner.specs.Booked.{Extends}
use Rattle.planner.proofs.Carrying.{link_of_hop}
use Rattle.planner.proofs.Fronts.{extends_both, extends_booking, extends_itself}
use Rattle.planner.proofs.transfers.carry.Goals as goal

pub book_hop-requires-clause-link : goal.book_hop-requires-clause-link
book_hop-requires-clause-link g c =
    let r = c.args.routes.now in
    let n = g.R.Routes.over r in
    link_of_hop (net_of n) (g.R.Routes.route r) (g.met.R.Routes.keeps r) (of_network n) c.args.transfer.from c.args.transfer.to 0 c.in-Some.hop c.in-Some.ensures

pub returns-clause-kept : goal.returns-clause-kept
returns-clause-kept g c =
    let A = g.T.Askable.meaning c.args.table.now in
    let B = g.T.Askable.meaning c.book_hop.new.table in
    extends_both (g.T.Askable.meaning c.carry_on.new.table) B A c.carry_on.ensures.kept
    (subst (λ T. Extends T A) (sym c.in_ok-leg.ensures.after) (extends_booking A A c.in_ok-leg.leg (extends_itself A)))
