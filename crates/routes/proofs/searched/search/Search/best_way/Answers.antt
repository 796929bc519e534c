-- The chain goes over the links, and keeps the best way.
use Rattle.std.proofs.Common.{◌≡◌, [], ap, sym, ◌∙◌, map, Some, rules, tests}
use Rattle.std.specs.List.{filter, reduce, enumerate_from}
use Rattle.std.specs.Option.{option_to_list}
use Rattle.std.proofs.lemmas.Bool.{cond-false}
use Rattle.std.proofs.lemmas.Iterator.{YieldsList-from_map, YieldsList-from_slice}
use Rattle.std.proofs.lemmas.Iterator.Consumers.{YieldsList-at, YieldsList-from_enumerate, YieldsList-from_filter}
use Rattle.model.specs.Data.{net_of}
use Rattle.routes.specs.Search.{is_settled}
use Rattle.routes.specs.Offers.{later}
use Rattle.routes.proofs.Linkwise.{leads, over, best_over_links, reduce_from_yields_by}
use Rattle.routes.proofs.searched.search.Search.best_way.Goals as goal

pub returns : goal.returns
returns g c =
    let N = net_of c.args.self.now.network.now in
    let before = g.L.Rank.before in
    let longer = g.L.Length.longer in
    let u = c.args.a.now in
    let i = c.args.i in
    let t = c.args.t in
    let best : c.reduce.result ≡ reduce (λ b w. later before w (Some b)) (map (over before longer N t i u) (filter (leads before longer N t i u) (enumerate_from 0 N.links))) =
    reduce_from_yields_by (λ b w. later before w (Some b)) _ (λ b x r q k. search (rules, tests)) c.reduce.result c.reduce.ensures.ran
    (YieldsList-from_map _ (over before longer N t i u)
    (YieldsList-at c.map.ensures.source
    (YieldsList-from_filter _ (leads before longer N t i u)
    (YieldsList-at c.filter.ensures.source (YieldsList-from_enumerate (YieldsList-at c.enumerate.ensures.source (YieldsList-from_slice N.links cc)) c.enumerate.ensures.count))
    c.filter.ensures.closure (λ x b q k. search (rules, tests))))
    c.map.ensures.closure (λ x r q k. search (rules, tests))) in
    ap option_to_list (best ∙ best_over_links before longer N t i u g.met.L.Rank.order) ∙ sym (cond-false (is_settled c.args.self.now.settled.items t) [] _ (sym c.is_settled.ensures ∙ c.if-is_settled.false))
