use Rattle.std.proofs.Common.{◌<◌, ◌≤◌, get_or, [], ⊎_elim, sym, ap, ◌∙◌, Some, arith}
use Rattle.std.proofs.lemmas.Bool.{cases_lt}
use Rattle.std.proofs.lemmas.Option.{slice_get-get_or}
use Rattle.marker.proofs.Overlaps.{no_span, no_span_in}
use Rattle.marker.proofs.spans.fill_column.Goals as goal

pub returns : goal.returns
returns c = λ j below.
    let column = c.loop-j.column in
    let inv = c.loop-j.invariant in
    let ends = c.requires.ends in
    slice_get-get_or column j no_span (omega (arith, inv.0))
    ∙ ap Some (⊎_elim
    (λ (l : j < c.loop-j.j). inv.1 j l)
    (λ (l : c.loop-j.j ≤ j). inv.2 j l below ∙ sym (no_span_in (get_or c.args.legs.now.rows j []) c.args.l (λ k. ends.1 j k (omega arith))))
    (cases_lt j c.loop-j.j))
