use Rattle.std.proofs.Common.{◌≡◌, ◌≤◌, true, is_ok, sym, subst, ◌∙◌, rules, arith}
use Rattle.std.proofs.lemmas.Bool.{cond-true}
use Rattle.model.specs.declared.booking.Booking.{Booking}
use Rattle.timetable.proofs.Orders.{all_insert}
use Rattle.timetable.proofs.Passes.{InOrder, SomeTicks, in_order_placed}
use Rattle.timetable.proofs.by_start.ByStart.insert.Goals as goal

pub invariant_of-self : goal.invariant_of-self
invariant_of-self c =
    let old = c.args.self.now in
    let place = c.place-place in
    let ok : is_ok c.insert.result ≡ true = search rules in
    let items = sym (c.insert.ensures.items ∙ cond-true _ _ _ ok) in
    record {
      in_order = subst InOrder items (in_order_placed old.list.items old.in_order old.some_ticks c.args.booking place.result c.requires.some_ticks (omega arith) place.ensures.splits c.requires.clear);
      some_ticks = subst SomeTicks items (all_insert old.list.items place.result c.args.booking (omega arith) (λ (b : Booking). 1 ≤ b.length) old.some_ticks c.requires.some_ticks);
    }
