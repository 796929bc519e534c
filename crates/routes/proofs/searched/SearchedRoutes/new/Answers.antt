-- The theorems of the search hold of these routes.
use Rattle.std.proofs.Common.{◌++◌, ◌∷◌, [], ◌∙◌, map, sym, ap, vec_items, zero-add}
use Rattle.std.specs.List.{range_with_len}
use Rattle.std.proofs.lemmas.List.{map-append}
use Rattle.std.proofs.lemmas.List.FromFn.{map-range_with_len_more}
use Rattle.model.specs.Data.{net_of}
use Rattle.model.proofs.Networks.{of_network}
use Rattle.routes.specs.Search.{search_order}
use Rattle.routes.specs.Shown.Turns.{in_order}
use Rattle.routes.proofs.Optimal.{best_routes, leads_inside}
use Rattle.routes.proofs.searched.SearchedRoutes.new.Goals as goal

pub loop-s-preserved : goal.loop-s-preserved
loop-s-preserved g c =
    let f = search_order g.L.Rank.before g.L.Length.longer (net_of c.args.network) g.L.Length.starting in
    record {
      told = ap (map vec_items) c.in_ok-push.ensures.items
          ∙ map-append vec_items c.loop-s.settled.items (c.in_ok-search_from.field-0 ∷ [])
          ∙ ap (λ ws. ws ++ vec_items c.in_ok-search_from.field-0 ∷ []) c.loop-s.invariant.told
          ∙ ap (λ w. map f (range_with_len 0 c.loop-s.s) ++ w ∷ []) c.in_ok-search_from.ensures
          ∙ sym (map-range_with_len_more f 0 c.loop-s.s c.loop-s.s (zero-add c.loop-s.s));
      room = c.loop-s.invariant.room;
    }

pub returns-clause-best : goal.returns-clause-best
returns-clause-best g c =
    let N = net_of c.args.network in
    best_routes g.L.Rank.before g.L.Length.longer N g.L.Length.starting g.met.L.Rank.order g.met.L.Length.laws (leads_inside N (of_network c.args.network))

pub returns-clause-ordered : goal.returns-clause-ordered
returns-clause-ordered g c = record {
  from = λ s known. in_order g.L.Rank.before g.L.Length.longer (net_of c.args.network) g.L.Length.starting s g.met.L.Rank.order known;
}
