use Rattle.std.proofs.Common.{◌-◌, [], get_or, drop, ap, ◌∙◌, refl, rules, tests}
use Rattle.std.specs.List.{list_all}
use Rattle.std.proofs.lemmas.List.{length-map}
use Rattle.std.proofs.lemmas.Iterator.{YieldsList-from_range}
use Rattle.std.proofs.lemmas.Iterator.Search.{all_from_yields_List}
use Rattle.model.specs.Plans.{plan_of, starts_of}
use Rattle.planner.specs.Order.{is_empty}
use Rattle.planner.proofs.OrderRows.{all_from_place}
use Rattle.planner.proofs.order.rows.no_stray_transfer.Goals as goal

pub returns : goal.returns
returns c =
    let rows = (plan_of c.args.plan.now).transfers in
    let a = c.edge_count.result in
    all_from_yields_List (λ i. is_empty (get_or rows i [])) _ _ c.all.result c.all.ensures.ran (YieldsList-from_range a 224 (224 - a) refl refl) (λ x b q k. search (rules, tests))
    ∙ all_from_place is_empty rows [] (224 - a) a (ap (λ n. n - a) (length-map c.args.plan.now.transfers starts_of ∙ c.args.plan.now.transfer_rows))
    ∙ ap (λ n. list_all is_empty (drop n rows)) c.edge_count.ensures.value
