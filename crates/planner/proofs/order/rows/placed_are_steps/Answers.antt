use Rattle.std.proofs.Common.{ℕ, ◌||◌, None, Option, is_none, get_or, ◌∙◌, refl, rules, tests}
use Rattle.std.proofs.lemmas.Iterator.{YieldsList-from_range}
use Rattle.std.proofs.lemmas.Iterator.Search.{all_from_yields_List}
use Rattle.model.specs.Plans.{plan_of}
use Rattle.model.specs.declared.plan.Placement.{Placement}
use Rattle.planner.specs.Order.{is_among}
use Rattle.planner.proofs.OrderRows.{all_numbered}
use Rattle.planner.proofs.order.rows.placed_are_steps.Goals as goal

pub returns : goal.returns
returns c =
    let rows = (plan_of c.args.plan.now).tasks in
    let test = λ (x : ℕ × Option Placement). is_none x.1 || is_among c.args.steps.now.steps.now x.0 in
    all_from_yields_List (λ t. test (t, get_or rows t None)) _ _ c.all.result c.all.ensures.ran (YieldsList-from_range 0 128 128 refl refl) (λ x b q k. search (rules, tests))
    ∙ all_numbered test rows None 128 c.args.plan.now.task_rows
