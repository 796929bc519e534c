use Rattle.std.proofs.Common.{◌≡◌, length, Some, sym, ap, ◌∙◌, arith}
use Rattle.std.specs.Option.{option_map}
use Rattle.model.specs.Data.{net_of}
use Rattle.routes.specs.Hops.{hops_of, reached}
use Rattle.routes.proofs.Along.{here, sound, is_hops, not_nth, reached_start}
use Rattle.routes_tests.proofs.walked.Goals as goal

pub loop-i-init : goal.loop-i-init
loop-i-init g c = sym (reached_start c.args.from (hops_of (g.R.Routes.route c.args.routes.now c.args.from c.args.to)))

pub loop-i-preserved : goal.loop-i-preserved
loop-i-preserved g c =
    let r = c.args.routes.now in
    let at = here (net_of (g.R.Routes.over r)) (g.R.Routes.route r) (g.met.R.Routes.keeps r) c.args.from c.args.to c.loop-i.i c.in_ok-here.field-0 (sym c.in_ok-here.ensures) in
    sym at.arrives

pub returns-in_err-here : goal.returns-in_err-here
returns-in_err-here g c =
    let o = g.R.Routes.route c.args.routes.now c.args.from c.args.to in
    let past = not_nth (hops_of o) c.loop-i.i (sym c.in_err-here.ensures) in
    let long = (is_hops o c.in_ok-count.count c.in_ok-count.ensures).1 in
    absurd (omega (arith, past, long, c.loop-i-test.true))

pub returns : goal.returns
returns g c =
    let r = c.args.routes.now in
    let s = c.args.from in
    let t = c.args.to in
    let o = g.R.Routes.route r s t in
    let is = is_hops o c.in_ok-count.count c.in_ok-count.ensures in
    let ends = (sound (net_of (g.R.Routes.over r)) (g.R.Routes.route r) (g.met.R.Routes.keeps r) s t (hops_of o) is.0).ends in
    let all : c.loop-i.i ≡ length (hops_of o) = omega (arith, is.1, c.loop-i.auto.i-end, c.loop-i-test.false) in
    ap Some (c.loop-i.invariant ∙ ap (reached s (hops_of o)) all ∙ ends) ∙ sym (ap (option_map (λ _. t)) is.0)
