-- The search is done from each of the first stations.
use Rattle.std.proofs.Common.{◌≡◌, map, vec_items, vec_len}
use Rattle.std.specs.List.{range_with_len}
use Rattle.model.specs.Data.{net_of}
use Rattle.routes.specs.Search.{search_order}
use Rattle.routes.proofs.searched.SearchedRoutes.new.Given as goal

abbrev pub invariant-loop-s : goal.invariant-loop-s
invariant-loop-s g l = record {
  told : map vec_items l.settled.items ≡ map (search_order g.L.Rank.before g.L.Length.longer (net_of l.network) g.L.Length.starting) (range_with_len 0 l.s);
  room : vec_len l.slots ≡ 256;
}
