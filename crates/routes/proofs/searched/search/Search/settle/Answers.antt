-- The way on to one station more is put into the queue, or there is none.
use Rattle.std.proofs.Common.{ℕ, ◌++◌, ◌∙◌, Bor, sym, ap, subst, arith}
use Rattle.std.specs.Prelude.{IsErr}
use Rattle.std.specs.Option.{option_to_list}
use Rattle.std.specs.List.Sorted.{IsPermutation}
use Rattle.std.proofs.lemmas.List.Sorted.{IsPermutation-refl}
use Rattle.queue.specs.Items.{items}
use Rattle.model.specs.Data.{net_of, station_count}
use Rattle.routes.specs.declared.settled.Settled.{Settled}
use Rattle.routes.proofs.Offered.{one_station_more, unless_failed}
use Rattle.routes.proofs.searched.search.Search.settle.Goals as goal
use Rattle.routes.proofs.searched.search.Search.settle.Goals.{in-Some, in_default}

pub loop-t-preserved : goal.loop-t-preserved
loop-t-preserved g c =
    let before = g.L.Rank.before in
    let longer = g.L.Length.longer in
    let N = net_of c.loop-t.self.network.now in
    let us = c.loop-t.self.settled.items in
    let u : ℕ × Settled g.row.L.Denot = (c.len-i.result, c.args.way) in
    let t = c.loop-t.t in
    let q = items c.loop-t.self.queue in
    let h = c.loop-t.invariant in
    elim c.match-best_way.branch [
      | in-Some w ↦
          let e = w.push-in-Some.ensures in
          let one = sym c.best_way.ensures ∙ ap option_to_list w.in-Some.is in
          let stations = ap (λ (n : Bor _). station_count (net_of n.now)) h.same_network in
          let roomy : IsErr w.push-in-Some.result → ⊥ = λ err. let full = e.full.0 err in omega (arith, full, h.count, h.same_room, c.requires.fits, c.loop-t-test.true, h.known, stations) in
          let taken = unless_failed w.push-in-Some.result e.taken roomy in
          let count = unless_failed w.push-in-Some.result e.count roomy in
          rw w.self-is (record {
            taken = one_station_more before longer N us u t _ q _ h.taken (subst (λ ws. IsPermutation (ws ++ q) (items w.push-in-Some.new.self)) (sym one) taken);
            count = omega (arith, count, h.count);
            same_room = e.room ∙ h.same_room;
            known = h.known;
            same_network = h.same_network;
            same_settled = h.same_settled;
          })
      | in_default w ↦
          let none = sym c.best_way.ensures ∙ ap option_to_list w.in_default.is in
          rw w.self-is (record {
            taken = one_station_more before longer N us u t _ q _ h.taken (subst (λ ws. IsPermutation (ws ++ q) q) (sym none) (IsPermutation-refl q));
            count = omega (arith, h.count);
            same_room = h.same_room;
            known = h.known;
            same_network = h.same_network;
            same_settled = h.same_settled;
          })
    ]
