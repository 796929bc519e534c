use Rattle.std.proofs.Common.{◌≡◌, ◌<◌, ◌≤◌, length, None, inr, ⊎_elim, sym, ◌∙◌, arith, rules, tests}
use Rattle.std.proofs.lemmas.Bool.{cases_lt}
use Rattle.std.proofs.lemmas.List.{get_or_past}
use Rattle.std.specs.List.{slice_get}
use Rattle.model.specs.Data.{net_of}
use Rattle.routes.specs.Legs.{legs}
use Rattle.routes.specs.RoutedPlans.{on}
use Rattle.marker.proofs.Rows.{legs_inside, made_by_from_fn}
use Rattle.marker.proofs.legs.leg_row.Goals as goal

pub returns : goal.returns
returns g c = λ k.
    let p = c.args.plan.now in
    let N = net_of (g.R.Routes.over p.routes.now) in
    let ρ = g.R.Routes.route p.routes.now in
    let row = c.from_fn.result in
    ⊎_elim
    (λ (l : k < 15). made_by_from_fn (λ k b. b ≡ slice_get (on p legs c.args.i) k) _ row 15 c.from_fn.ensures.items (λ x y q e. search (rules, tests)) k None l)
    (λ (l : 15 ≤ k). let past : length row ≤ k = omega (arith, c.from_fn.ensures.items.long) in get_or_past row k None past ∙ sym (legs_inside p.job.now N ρ p.plan.now c.args.i k (inr l)))
    (cases_lt k 15)
