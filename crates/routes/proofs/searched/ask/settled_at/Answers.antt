use Rattle.std.proofs.Common.{◌∙◌, rules, tests}
use Rattle.std.specs.Prelude.{◌==◌}
use Rattle.std.proofs.lemmas.Iterator.{YieldsList-from_slice}
use Rattle.std.proofs.lemmas.Iterator.Search.{find_from_yields_List}
use Rattle.routes.specs.declared.settled.Settled.{Settled}
use Rattle.routes.proofs.searched.ask.settled_at.Goals as goal

pub returns : goal.returns
returns g c =
    c.copied.ensures
    ∙ find_from_yields_List (λ (u : Settled _). u.station == c.args.t) _ _ c.find.result c.find.ensures.ran (YieldsList-from_slice c.args.settled.now cc) (λ x b q k. search (rules, tests))
