use Rattle.std.proofs.Common.{◌≡◌, true, false, refl, sym, ap, ◌∙◌, rules, tests}
use Rattle.std.specs.Option.{option_map}
use Rattle.std.proofs.lemmas.Bool.{cond-false}
use Rattle.std.proofs.lemmas.Iterator.{first_from_Range}
use Rattle.model.specs.Lowest.{lowest}
use Rattle.model.proofs.Lowests.{lowest_all}
use Rattle.marker.specs.declared.verdict.Verdict.TheVariants.{Broken}
use Rattle.marker.specs.Markings.{on}
use Rattle.marker.specs.Verdicts.{test, spot, seconds}
use Rattle.marker.proofs.FirstAnswers.{lowest_where}
use Rattle.marker.proofs.marking.Marking.break_at.Goals as goal

pub returns-then-surely_holds : goal.returns-then-surely_holds
returns-then-surely_holds g c =
    let m = c.args.self.now in
    let r = c.args.rule in
    let x = c.args.x in
    sym (lowest_all (on m spot r x) (on m seconds r x) (λ y l. cond-false (on m test r x y) _ _ (c.if-surely_holds.ensures refl y)))

pub returns : goal.returns
returns g c =
    let m = c.args.self.now in
    let r = c.args.rule in
    let x = c.args.x in
    let n = c.second_count.result in
    let made : c.map.result ≡ option_map (Broken r x) c.find.result = search (rules, tests) in
    let first = first_from_Range _ _ _ c.find.result (λ y. on m test r x y ≡ true) (λ y. on m test r x y ≡ false) c.find.ensures.ran (λ y q k. search (rules, tests)) (λ y q k. search (rules, tests)) in
    made ∙ lowest_where (on m test r x) (Broken r x) n c.find.result first ∙ ap (lowest (on m spot r x)) c.second_count.ensures
