use Rattle.std.proofs.Common.{◌≡◌, ◌+◌, ◌*◌, [], ◌∷◌, ◌++◌, vec_items, length, take, drop, All, sym, subst, arith, rules}
use Rattle.std.proofs.lemmas.List.{take_at}
use Rattle.std.proofs.lemmas.List.Elements.{All-push}
use Rattle.timetable.specs.Bits.{IsWritten}
use Rattle.timetable.specs.BitSheets.{sheet_table}
use Rattle.timetable.specs.Marks.{AreMarked, HasBits}
use Rattle.timetable.proofs.Frees.{words_from_free, test_from_clear}
use Rattle.timetable.proofs.Remarks.{marked_push}
use Rattle.timetable.proofs.bit_sheet.BitSheet.keep.Goals as goal

pub first_bit-requires-clause-known : goal.first_bit-requires-clause-known
first_bit-requires-clause-known c =
    let b = c.args.booking in
    omega (arith, (words_from_free (sheet_table c.args.self.now) b.resource b.start b.length c.requires.is_free).known)

pub set_bits-requires-clause-in_words : goal.set_bits-requires-clause-in_words
set_bits-requires-clause-in_words c =
    let sheet = c.args.self.now in
    let b = c.args.booking in
    let free = words_from_free (sheet_table sheet) b.resource b.start b.length c.requires.is_free in
    omega (arith, free.in_time, c.first_bit.ensures.in_words, c.deref_mut.ensures.len, sheet.words.ok, sheet.all_words)

pub invariant_of-self : goal.invariant_of-self
invariant_of-self c =
    let sheet = c.args.self.now in
    let w = sheet.words_per_resource in
    let b = c.args.booking in
    let old = vec_items sheet.bookings in
    let new = c.set_bits.new.words in
    let free = words_from_free (sheet_table sheet) b.resource b.start b.length c.requires.is_free in
    let has_bits : HasBits w b = (omega (arith, free.known), free.in_time) in
    let pushed : c.push_reserved.new.self.items ≡ old ++ b ∷ [] = c.push_reserved.ensures.items in
    let marked : AreMarked c.deref_mut.result.now w old = subst (λ ws. AreMarked ws w old) (sym c.deref_mut.ensures.value) sheet.are_marked in
    let written : IsWritten c.deref_mut.result.now new 1 (64 * (b.resource * w) + b.start) (64 * (b.resource * w) + b.start + b.length) =
    subst (λ f. IsWritten c.deref_mut.result.now new 1 (f + b.start) (f + b.start + b.length)) c.first_bit.ensures.is c.set_bits.ensures in
    let whole : take sheet.words.len (new ++ drop (length new) sheet.words.items) ≡ new = take_at new _ _ (omega (arith, c.set_bits.auto.words, c.deref_mut.ensures.len)) in
    let marks : AreMarked new w (old ++ b ∷ []) = marked_push c.deref_mut.result.now new w old b has_bits marked (test_from_clear b old free.clear) written in
    record {
      few = search rules;
      narrow = search rules;
      all_words = search rules;
      have_bits = subst (All (HasBits w)) (sym pushed) (All-push (HasBits w) old b sheet.have_bits has_bits);
      are_marked = subst (λ ws. AreMarked ws w c.push_reserved.new.self.items) (sym whole) (subst (AreMarked new w) (sym pushed) marks);
    }
