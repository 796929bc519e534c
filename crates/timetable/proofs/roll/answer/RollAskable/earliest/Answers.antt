use Rattle.std.proofs.Common.{◌≡◌, ◌+◌, ◌^◌, false, None, Some, sym, refl, ap, ◌∙◌, ⊎_elim, arith}
use Rattle.std.specs.List.{list_any}
use Rattle.std.proofs.lemmas.Bool.{cases_lt}
use Rattle.std.proofs.lemmas.Bool.Decides.{nat_tests}
use Rattle.model.specs.Bookings.{end, collide}
use Rattle.timetable.specs.Earliest.{earliest}
use Rattle.timetable.specs.Rolls.{roll_table}
use Rattle.timetable.specs.Tables.{span}
use Rattle.timetable.proofs.Earliests.{words_none}
use Rattle.timetable.proofs.Finding.{not_free_nothing, not_free_unknown, earliest_first, earliest_none}
use Rattle.timetable.proofs.roll.answer.RollAskable.earliest.Goals as goal

pub returns-then-ticks-eq0 : goal.returns-then-ticks-eq0
returns-then-ticks-eq0 c =
    let T = roll_table c.args.self.now in
    let r = c.args.resource in
    let d = c.args.ticks in
    sym (words_none T r d c.args.from (λ s _. ⊎_elim (not_free_nothing T r s d) (λ h. not_free_unknown T r s d h.1) c.then-ticks-eq0.either))

pub returns-in_err-found : goal.returns-in_err-found
returns-in_err-found c =
    let roll = c.args.self.now in
    c.from_residual.ensures ∙ sym (earliest_none (roll_table roll) roll.by_start.list.items roll.same_bookings c.args.resource c.args.from c.args.ticks (2 ^ 32) (c.in_err-found.ensures.none refl) (omega arith))

pub returns : goal.returns
returns c =
    let roll = c.args.self.now in
    let T = roll_table roll in
    let bs = roll.by_start.list.items in
    let r = c.args.resource in
    let from = c.args.from in
    let d = c.args.ticks in
    let first = c.in_ok-found.ensures in
    let s = c.in_ok-found.found.start in
    let long : end c.in_ok-found.found ≡ s + d = ap end first.moved in
    let clear : list_any (collide (span r s d)) bs ≡ false = ap (λ b. list_any (collide b) bs) (sym first.moved) ∙ first.clear in
    ⊎_elim
    (λ past. let none : earliest T r from d ≡ None = earliest_none T bs roll.same_bookings r from d s first.not_before past in grind (arith, nat_tests))
    (λ within. let there : earliest T r from d ≡ Some s = earliest_first T bs roll.same_bookings r from d s first.not_before first.late_enough clear (omega arith) within (omega arith) in grind (arith, nat_tests))
    (cases_lt T.horizon (s + d))
