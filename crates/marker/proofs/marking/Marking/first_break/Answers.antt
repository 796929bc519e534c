use Rattle.std.proofs.Common.{ℕ, ap, ◌∙◌, refl, arith, rules, tests}
use Rattle.std.proofs.lemmas.Iterator.{YieldsList-from_range}
use Rattle.model.specs.Lowest.{lowest}
use Rattle.marker.specs.Markings.{on}
use Rattle.marker.specs.Verdicts.{spot, seconds, search_rule}
use Rattle.marker.proofs.FirstAnswers.{find_map_from_yields_List, first_lowest}
use Rattle.marker.proofs.marking.Marking.first_break.Goals as goal

pub returns : goal.returns
unfolding search_rule
returns g c =
    let m = c.args.self.now in
    let r = c.args.rule in
    let n = c.first_count.result in
    let at = λ (x : ℕ). lowest (on m spot r x) (on m seconds r x) in
    find_map_from_yields_List at _ c.find_map.result c.find_map.ensures.runs (YieldsList-from_range 0 n n refl (omega arith)) (λ x b q k. search (rules, tests))
    ∙ first_lowest at n ∙ ap (lowest at) c.first_count.ensures
