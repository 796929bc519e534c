use Rattle.std.proofs.Common.{◌≡◌, ◌-◌, drop, Some, refl, sym, ap, ◌∙◌, rules, tests}
use Rattle.std.specs.List.{list_any, slice_get}
use Rattle.std.proofs.lemmas.Option.{slice_get_read}
use Rattle.std.proofs.lemmas.Iterator.{YieldsList-from_slice}
use Rattle.std.proofs.lemmas.Iterator.Adapters.{YieldsList-from_skip}
use Rattle.std.proofs.lemmas.Iterator.Search.{any_from_yields_List}
use Rattle.marker.specs.Spans.{overlaps, overlapped_in}
use Rattle.marker.proofs.spans.SpanTable.is_overlapped.Goals as goal

pub returns : goal.returns
returns c =
    let column = c.in-Some.column.now in
    let b = c.args.b.now in
    let i = c.args.i in
    let booked = c.of-booked.result in
    let at : slice_get c.args.self.now.columns (b.resource - 16) ≡ Some column = ap (slice_get c.args.self.now.columns) (sym c.saturating_sub.ensures) ∙ slice_get_read c.args.self.now.columns _ c.saturating_sub.result column refl c.in-Some.ensures.lookup.3.0 c.in-Some.ensures.lookup.1 in
    any_from_yields_List (λ s. overlaps s booked) _ _ c.any.result c.any.ensures.ran
    (YieldsList-from_skip 1 (YieldsList-from_skip i (YieldsList-from_slice column (search (rules, tests))) (search (rules, tests))) (search (rules, tests)))
    (λ x b q k. search (rules, tests))
    ∙ ap (λ z. list_any (λ s. overlaps s z) (drop 1 (drop i column))) c.of-booked.ensures
    ∙ sym (ap (λ o. overlapped_in o i b) at)
