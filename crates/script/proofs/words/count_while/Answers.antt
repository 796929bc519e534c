use Rattle.std.proofs.Common.{rules, tests, of_calls, ◌∙◌}
use Rattle.std.proofs.lemmas.Iterator.{YieldsList-from_slice}
use Rattle.std.proofs.lemmas.Iterator.Consumers.{YieldsList-at, count_from_yields_List}
use Rattle.std.proofs.lemmas.Iterator.Search.{YieldsList-from_take_while}
use Rattle.std.proofs.lemmas.List.Folds.{length-prefix_len}
use Rattle.script.proofs.words.count_while.Goals as goal

pub returns-clause-value : goal.returns-clause-value
returns-clause-value g c passes by =
    count_from_yields_List c.take_while.result _ c.count.ensures.ran
    (YieldsList-from_take_while _ passes (YieldsList-at c.take_while.ensures.source (YieldsList-from_slice c.args.text.now (cc))) c.take_while.ensures.closure c.take_while.ensures.done (λ x b q k. (search (rules, tests), by x.now b (search (rules, tests, of_calls)))))
    ∙ length-prefix_len passes c.args.text.now
