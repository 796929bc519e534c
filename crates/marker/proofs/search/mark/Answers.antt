use Rattle.std.proofs.Common.{◌≡◌, ap, ◌∙◌, rules, tests}
use Rattle.std.proofs.lemmas.Iterator.{YieldsList-from_slice}
use Rattle.model.specs.Data.{job_of, net_of}
use Rattle.model.specs.Plans.{plan_of}
use Rattle.marker.specs.Markings.{on}
use Rattle.marker.specs.Verdicts.{search_rule, order, found, verdict}
use Rattle.marker.proofs.FirstAnswers.{find_map_from_yields_List}
use Rattle.marker.proofs.Searches.{first_rules, found_is, names_the_first}
use Rattle.marker.proofs.search.mark.Goals as goal

pub returns-clause-answer : goal.returns-clause-answer
unfolding verdict
returns-clause-answer g c =
    let m = c.new-marking.result in
    let first = find_map_from_yields_List (on m search_rule) _ c.find_map.result c.find_map.ensures.runs (YieldsList-from_slice order (cc)) (λ x b q k. search (rules, tests)) in
    let answer : c.unwrap_or.result ≡ on m verdict = c.unwrap_or.ensures ∙ found_is c.find_map.result ∙ ap found (first ∙ first_rules (job_of m.marked.job.now) (net_of (g.R.Routes.over m.marked.routes.now)) (g.R.Routes.route m.marked.routes.now) (plan_of m.marked.plan.now) order) in
    rw (← c.new-marked.ensures.routes, ← c.new-marked.ensures.job, ← c.new-marked.ensures.plan, ← c.new-marking.ensures) answer

pub returns-clause-first : goal.returns-clause-first
returns-clause-first g c = names_the_first _ _ _ _
