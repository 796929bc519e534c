-- Each turn keeps what waits; where nothing waits, all is settled.
use Rattle.std.proofs.Common.{◌∙◌, ◌<◌, refl, sym, ap, subst, length, arith}
use Rattle.model.specs.Data.{net_of, station_count}
use Rattle.model.proofs.Networks.{of_network}
use Rattle.queue.specs.Items.{items}
use Rattle.std.proofs.lemmas.List.{length_push}
use Rattle.routes.proofs.Searching.{Searching, begins, turns, stale, ended, room_for, short_with}
use Rattle.routes.proofs.searched.search.search_from.Goals as goal

pub loop-way-init : goal.loop-way-init
loop-way-init g c =
    let N = net_of c.args.network.now in
    let few = (of_network c.args.network.now).few_stations in
    let e = c.in_ok-settle.ensures in
    rw e.network (record {
      searching = begins g.L.Rank.before g.L.Length.longer N g.L.Length.starting c.args.source g.met.L.Rank.order
          c.new.result.items c.settle.new.self.settled.items (items c.new-2.result) (items c.settle.new.self.queue) c.source.result
          c.new.ensures.items c.new-2.ensures.items c.source.ensures e.settled e.items e.count few;
      room = omega (arith, e.room, c.new-2.ensures.room);
      network = refl;
    })

pub settle-requires-then-not-is_settled-clause-short : goal.settle-requires-then-not-is_settled-clause-short
settle-requires-then-not-is_settled-clause-short g c =
    let s = c.loop-way.search in
    let few = (of_network s.network.now).few_stations in
    let known = subst (λ n. c.args.source < station_count (net_of n)) (sym c.loop-way.invariant.network) c.requires.known in
    let fresh = sym c.is_settled.ensures ∙ c.if-not-is_settled.true in
    short_with g.L.Rank.before g.L.Length.longer (net_of s.network.now) g.L.Length.starting c.args.source g.met.L.Rank.order
    s.settled.items (items s.queue) (items c.pop.new.self) c.in-Some.way c.loop-way.invariant.searching c.in-Some.ensures.first c.in-Some.ensures.left fresh known few

pub settle-requires-then-not-is_settled-clause-fits : goal.settle-requires-then-not-is_settled-clause-fits
settle-requires-then-not-is_settled-clause-fits g c =
    let s = c.loop-way.search in
    let few = (of_network s.network.now).few_stations in
    let known = subst (λ n. c.args.source < station_count (net_of n)) (sym c.loop-way.invariant.network) c.requires.known in
    let fresh = sym c.is_settled.ensures ∙ c.if-not-is_settled.true in
    let h = c.loop-way.invariant.searching in
    let more = room_for g.L.Rank.before g.L.Length.longer (net_of s.network.now) g.L.Length.starting c.args.source g.met.L.Rank.order
    s.settled.items (items s.queue) (items c.pop.new.self) c.in-Some.way h c.in-Some.ensures.first c.in-Some.ensures.left fresh known in
    let full = h.fits in
    omega (arith, c.in-Some.ensures.count, c.in-Some.ensures.room, c.loop-way.invariant.room)

pub loop-way-smaller-in-Continue-branch-2 : goal.loop-way-smaller-in-Continue-branch-2
loop-way-smaller-in-Continue-branch-2 g c =
    let s = c.loop-way.search in
    let few = (of_network s.network.now).few_stations in
    let known = subst (λ n. c.args.source < station_count (net_of n)) (sym c.loop-way.invariant.network) c.requires.known in
    let fresh = sym c.is_settled.ensures ∙ c.if-not-is_settled.true in
    let more = room_for g.L.Rank.before g.L.Length.longer (net_of s.network.now) g.L.Length.starting c.args.source g.met.L.Rank.order
    s.settled.items (items s.queue) (items c.pop.new.self) c.in-Some.way c.loop-way.invariant.searching c.in-Some.ensures.first c.in-Some.ensures.left fresh known in
    let e = c.in_ok-settle-2.ensures in
    omega (arith, c.in-Some.ensures.count, e.count, ap length e.settled, length_push s.settled.items c.in-Some.way)

pub loop-way-preserved-in-Continue-branch-2 : goal.loop-way-preserved-in-Continue-branch-2
loop-way-preserved-in-Continue-branch-2 g c =
    let s = c.loop-way.search in
    let new = c.settle-then-not-is_settled.new.self in
    let few = (of_network s.network.now).few_stations in
    let fresh = sym c.is_settled.ensures ∙ c.if-not-is_settled.true in
    let e = c.in_ok-settle-2.ensures in
    rw e.network (record {
      searching = turns g.L.Rank.before g.L.Length.longer (net_of s.network.now) g.L.Length.starting c.args.source g.met.L.Rank.order
          s.settled.items new.settled.items (items s.queue) (items c.pop.new.self) (items new.queue) c.in-Some.way
          c.loop-way.invariant.searching c.in-Some.ensures.first c.in-Some.ensures.left fresh e.settled e.items e.count few;
      room = omega (arith, c.in-Some.ensures.room, c.loop-way.invariant.room, e.room);
      network = c.loop-way.invariant.network;
    })

pub loop-way-preserved : goal.loop-way-preserved
loop-way-preserved g c =
    let s = c.loop-way.search in
    let there = sym c.is_settled.ensures ∙ c.if-not-is_settled.false in
    record {
      searching = stale g.L.Rank.before g.L.Length.longer (net_of s.network.now) g.L.Length.starting c.args.source g.met.L.Rank.order
          s.settled.items (items s.queue) (items c.pop.new.self) (length s.settled.items) c.in-Some.way c.loop-way.invariant.searching c.in-Some.ensures.left there;
      room = omega (arith, c.in-Some.ensures.room, c.loop-way.invariant.room);
      network = c.loop-way.invariant.network;
    }

pub returns : goal.returns
returns g c =
    let s = c.loop-way.search in
    let us = s.settled.items in
    let before = g.L.Rank.before in
    let longer = g.L.Length.longer in
    let known = subst (λ n. c.args.source < station_count (net_of n)) (sym c.loop-way.invariant.network) c.requires.known in
    let none = c.in_default.ensures.empty.0 refl in
    rw (← c.loop-way.invariant.network)
    (ended before longer (net_of s.network.now) g.L.Length.starting c.args.source g.met.L.Rank.order us known
    (subst (λ q. Searching before longer (net_of s.network.now) g.L.Length.starting c.args.source g.met.L.Rank.order us q (length us)) none c.loop-way.invariant.searching))
