use Rattle.std.proofs.Common.{◌∙◌, refl, rules, tests}
use Rattle.std.specs.Prelude.{◌==◌, ◌||◌}
use Rattle.std.specs.List.{list_any}
use Rattle.std.proofs.lemmas.Iterator.{YieldsList-from_slice}
use Rattle.std.proofs.lemmas.Iterator.Search.{any_from_yields_List}
use Rattle.std.proofs.lemmas.List.Recursion.{same_from_clauses}
use Rattle.routes.specs.Walks.{uses}
use Rattle.routes.specs.declared.hop.Hop.{Hop}
use Rattle.routes.proofs.walk.uses.Goals as goal

pub returns : goal.returns
returns c =
    any_from_yields_List (λ (h : Hop). h.link == c.args.link) _ _ _ c.any.ensures.ran (YieldsList-from_slice c.args.hops.now cc) (λ x b q k. search (rules, tests))
    ∙ same_from_clauses (list_any (λ h. h.link == c.args.link)) (uses c.args.link) (λ h b. h.link == c.args.link || b) refl (λ _ _. refl) (λ _ _. refl) c.args.hops.now
