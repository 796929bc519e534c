use Rattle.std.proofs.Common.{◌≡◌, ◌<◌, ◌≤◌, length, None, ⊎_elim, sym, ap, ◌∙◌, arith, rules, tests}
use Rattle.std.proofs.lemmas.Bool.{cases_lt}
use Rattle.std.proofs.lemmas.List.{get_or_past}
use Rattle.std.specs.Option.{option_map}
use Rattle.model.specs.Data.{job_of, net_of}
use Rattle.model.specs.Plans.{task_row, task_booking}
use Rattle.routes.specs.RoutedPlans.{on}
use Rattle.marker.proofs.Rows.{made_by_from_fn}
use Rattle.marker.proofs.tasks.TaskTable.new.Goals as goal

pub returns : goal.returns
returns g c = λ t.
    let p = c.args.plan.now in
    let J = job_of p.job.now in
    let N = net_of (g.R.Routes.over p.routes.now) in
    let row = c.from_fn.result in
    ⊎_elim
    (λ (l : t < 128). made_by_from_fn (λ t b. b ≡ on p (λ J N ρ P. option_map (task_booking J N t) (task_row P t))) _ row 128 c.from_fn.ensures.items (λ x y q e. (search (rules, tests), search (rules, tests))) t None l)
    (λ (l : 128 ≤ t).
    let past : length row ≤ t = omega (arith, c.from_fn.ensures.items.long) in
    let unplaced : length p.plan.now.tasks ≤ t = omega (arith, p.plan.now.task_rows) in
    get_or_past row t None past ∙ sym (ap (option_map (task_booking J N t)) (get_or_past p.plan.now.tasks t None unplaced)))
    (cases_lt t 128)
