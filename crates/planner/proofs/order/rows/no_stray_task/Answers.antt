use Rattle.std.proofs.Common.{◌-◌, None, is_none, get_or, drop, ap, ◌∙◌, refl, rules, tests}
use Rattle.std.specs.List.{list_all}
use Rattle.std.proofs.lemmas.Iterator.{YieldsList-from_range}
use Rattle.std.proofs.lemmas.Iterator.Search.{all_from_yields_List}
use Rattle.model.specs.Plans.{plan_of}
use Rattle.planner.proofs.OrderRows.{all_from_place}
use Rattle.planner.proofs.order.rows.no_stray_task.Goals as goal

pub returns : goal.returns
returns c =
    let rows = (plan_of c.args.plan.now).tasks in
    let a = c.task_count.result in
    all_from_yields_List (λ t. is_none (get_or rows t None)) _ _ c.all.result c.all.ensures.ran (YieldsList-from_range a 128 (128 - a) refl refl) (λ x b q k. search (rules, tests))
    ∙ all_from_place is_none rows None (128 - a) a (ap (λ n. n - a) c.args.plan.now.task_rows)
    ∙ ap (λ n. list_all is_none (drop n rows)) c.task_count.ensures.value
