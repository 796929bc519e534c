use Rattle.std.proofs.Common.{◌≡◌, Some, ap, subst, ◌∙◌}
use Rattle.std.specs.List.{slice_get}
use Rattle.std.proofs.lemmas.Option.{slice_get-get_or}
use Rattle.timetable.proofs.Orders.{count_by_taken}
use Rattle.timetable.proofs.Passes.{stands_at_place}
use Rattle.timetable.proofs.by_start.ByStart.remove.Goals as goal

pub returns-clause-count : goal.returns-clause-count
returns-clause-count c =
    let own = c.args.self.now in
    let b = c.args.booking in
    let xs = own.list.items in
    let (k, inside, here) = c.requires in
    let at : slice_get xs k ≡ Some b = slice_get-get_or xs k b inside ∙ ap Some here in
    let is : slice_get xs c.place-place.result ≡ Some b = subst (λ i. slice_get xs i ≡ Some b) (stands_at_place xs own.in_order own.some_ticks b c.place-place.result c.place-place.ensures.splits k inside here) at in
    λ p. count_by_taken p xs c.remove.new.self.items c.place-place.result b is c.remove.ensures.items
