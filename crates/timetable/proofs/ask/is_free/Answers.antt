use Rattle.std.proofs.Common.{◌≡◌, Some, nat_eq, ap, sym, ◌∙◌}
use Rattle.std.specs.Option.{option_eq}
use Rattle.timetable.specs.Changes.{is_free_for}
use Rattle.timetable.proofs.Finding.{free_earliest}
use Rattle.timetable.proofs.Frees.{free_in_words}
use Rattle.timetable.proofs.ask.is_free.Goals as goal

pub returns-clause-answer : goal.returns-clause-answer
returns-clause-answer g c =
    let b = c.args.booking in
    c.eq.ensures ∙ ap (λ o. option_eq nat_eq o (Some b.start)) c.earliest.ensures ∙ free_earliest (g.T.Askable.meaning c.args.table.now) b.resource b.start b.length

pub returns-clause-in_words : goal.returns-clause-in_words
returns-clause-in_words g c =
    let T = g.T.Askable.meaning c.args.table.now in
    let b = c.args.booking in
    let is : c.eq.result ≡ is_free_for T b = returns-clause-answer g c in
    let words = free_in_words T b.resource b.start b.length in
    (λ e. words.0 (sym is ∙ e), λ f. is ∙ words.1 f)
