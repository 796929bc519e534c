use Rattle.std.proofs.Common.{◌-◌, true, None, Option, get_or, ap, ◌∙◌, refl, rules, tests}
use Rattle.std.specs.Option.{option_map_or}
use Rattle.std.proofs.lemmas.Iterator.{YieldsList-from_range}
use Rattle.std.proofs.lemmas.Iterator.Search.{all_from_yields_List}
use Rattle.model.specs.Data.{net_of, is_machine}
use Rattle.model.specs.Plans.{plan_of}
use Rattle.model.specs.declared.plan.Placement.{Placement}
use Rattle.planner.proofs.OrderRows.{all_from_place}
use Rattle.planner.proofs.order.rows.on_machines.Goals as goal

pub returns : goal.returns
returns c =
    let rows = (plan_of c.args.plan.now).tasks in
    let test = λ (row : Option Placement). option_map_or (λ p. is_machine (net_of c.args.network.now) p.station) row true in
    all_from_yields_List (λ t. test (get_or rows t None)) _ _ c.all.result c.all.ensures.ran (YieldsList-from_range 0 128 128 refl refl) (λ x b q k. search (rules, tests))
    ∙ all_from_place test rows None 128 0 (ap (λ n. n - 0) c.args.plan.now.task_rows)
