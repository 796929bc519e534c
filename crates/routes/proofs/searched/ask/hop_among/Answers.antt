-- The way to the station that is found, walked back to the hop that is asked.
use Rattle.std.proofs.Common.{◌≡◌, Some, refl, sym, ap, ◌∙◌, arith}
use Rattle.std.specs.List.{slice_get}
use Rattle.std.proofs.lemmas.Option.{slice_get_past, slice_get_within}
use Rattle.routes.specs.Shown.RoutesAmong.{found_at}
use Rattle.routes.specs.Search.{way_to}
use Rattle.routes.specs.declared.settled.Settled.{Settled}
use Rattle.routes.proofs.BackWays.{way_long, last_of_way, before_last, at_origin, hop_found}
use Rattle.routes.proofs.searched.ask.hop_among.Goals as goal

pub returns-then-i-a : goal.returns-then-i-a
returns-then-i-a g c =
    let us = c.args.settled.now in
    let a = c.in_ok-a.a in
    let found = found_at us c.args.t a (sym c.in_ok-a.ensures) in
    let long = way_long us c.requires a.hops found.0 a refl found.1 in
    sym (hop_found us c.args.t c.args.i a c.in_ok-a.ensures ∙ slice_get_past (way_to us a) c.args.i (omega arith))

pub loop-back-init : goal.loop-back-init
loop-back-init g c =
    let found = found_at c.args.settled.now c.args.t c.in_ok-a.a (sym c.in_ok-a.ensures) in
    record { settled = (found.0, found.1); hops = refl; same = refl }

pub offset_bounds-settled-a : goal.offset_bounds-settled-a
offset_bounds-settled-a g c =
    let h = c.loop-back.invariant in
    let o = c.requires.each h.settled.0 c.loop-back.a h.settled.1 (omega arith) in
    omega (arith, slice_get_within c.args.settled.now c.loop-back.a.from o.origin o.there)

pub bounds-settled-a : goal.bounds-settled-a
bounds-settled-a g c =
    let h = c.loop-back.invariant in
    let o = c.requires.each h.settled.0 c.loop-back.a h.settled.1 (omega arith) in
    slice_get_within c.args.settled.now c.loop-back.a.from o.origin o.there

pub loop-back-preserved : goal.loop-back-preserved
loop-back-preserved g c =
    let us = c.args.settled.now in
    let a = c.loop-back.a in
    let r = c.index-settled-a.result in
    let h = c.loop-back.invariant in
    let o = c.requires.each h.settled.0 a h.settled.1 (omega arith) in
    let is = at_origin us a r o c.index-settled-a.is in
    let fewer = ap (λ (w : Settled _). w.hops) is in
    record {
      settled = (a.from, o.there ∙ ap Some (sym is));
      hops = omega (arith, h.hops, o.hops, fewer);
      same = ap (λ w. slice_get (way_to us w) c.args.i) is ∙ sym (before_last us c.requires h.settled.0 c.args.i a o h.settled.1 (omega (arith, h.hops, o.hops))) ∙ h.same;
    }

pub returns : goal.returns
returns g c =
    let us = c.args.settled.now in
    let a = c.loop-back.a in
    let h = c.loop-back.invariant in
    let o = c.requires.each h.settled.0 a h.settled.1 (omega arith) in
    let at : o.origin.hops ≡ c.args.i = omega (arith, h.hops, o.hops) in
    sym (last_of_way us c.requires h.settled.0 a o h.settled.1)
    ∙ ap (slice_get (way_to us a)) at
    ∙ h.same
    ∙ sym (hop_found us c.args.t c.args.i c.in_ok-a.a c.in_ok-a.ensures)
