use Rattle.std.proofs.Common.{◌+◌, vec_items, refl, sym, subst, ◌∙◌, ⊎_elim, arith}
use Rattle.timetable.specs.BitSheets.{sheet_table}
use Rattle.timetable.specs.Marks.{AreMarked}
use Rattle.timetable.proofs.Earliests.{words_none}
use Rattle.timetable.proofs.Finding.{not_free_nothing, not_free_late, not_free_unknown}
use Rattle.timetable.proofs.Gaps.{gap_is_earliest, no_gap}
use Rattle.timetable.proofs.bit_sheet.answer.BitSheetAskable.earliest.Goals as goal

pub returns-then-ticks-eq0 : goal.returns-then-ticks-eq0
returns-then-ticks-eq0 c =
    let T = sheet_table c.args.self.now in
    let r = c.args.resource in
    let d = c.args.ticks in
    sym (words_none T r d c.args.from (λ s late.
    ⊎_elim (not_free_nothing T r s d)
    (λ some. ⊎_elim (λ h. not_free_unknown T r s d h.1) (λ known. not_free_late T r s d (omega arith)) some)
    c.then-ticks-eq0.either))

pub returns-in_err-gap : goal.returns-in_err-gap
returns-in_err-gap c =
    let sheet = c.args.self.now in
    let words = c.deref.result.now in
    let marked : AreMarked words sheet.words_per_resource (vec_items sheet.bookings) = subst (λ ws. AreMarked ws sheet.words_per_resource (vec_items sheet.bookings)) (sym c.deref.ensures.value) sheet.are_marked in
    c.from_residual.ensures
    ∙ sym (no_gap (sheet_table sheet) words sheet.words_per_resource marked refl c.args.resource c.args.from c.args.ticks c.first_bit-first.result (c.first_bit-first.result + c.horizon-horizon.result) (omega arith) c.first_bit-first.ensures.is (omega arith) (c.in_err-gap.ensures.none refl))

pub returns : goal.returns
returns c =
    let sheet = c.args.self.now in
    let words = c.deref.result.now in
    let marked : AreMarked words sheet.words_per_resource (vec_items sheet.bookings) = subst (λ ws. AreMarked ws sheet.words_per_resource (vec_items sheet.bookings)) (sym c.deref.ensures.value) sheet.are_marked in
    sym (gap_is_earliest (sheet_table sheet) words sheet.words_per_resource marked refl c.args.resource c.args.from c.args.ticks c.first_bit-first.result (c.first_bit-first.result + c.horizon-horizon.result) (omega arith) c.first_bit-first.ensures.is (omega arith) c.in_ok-gap.gap (omega arith) c.in_ok-gap.ensures.found)
