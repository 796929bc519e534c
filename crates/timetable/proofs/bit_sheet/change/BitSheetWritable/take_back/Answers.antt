use Rattle.std.proofs.Common.{◌≡◌, ◌+◌, ◌*◌, [], ◌∷◌, ◌++◌, List, ℕ, Some, None, Option, vec_items, length, take, drop, All, sym, ap, subst, ◌∙◌, arith, rules}
use Rattle.std.specs.Option.{option_to_list}
use Rattle.std.proofs.lemmas.List.{take_at, append-nil}
use Rattle.model.specs.declared.booking.Booking.{Booking}
use Rattle.timetable.specs.Bits.{IsWritten}
use Rattle.timetable.specs.Changes.{with_booking}
use Rattle.timetable.specs.declared.bit_sheet.BitSheet.{BitSheet}
use Rattle.timetable.specs.Marks.{AreMarked, HasBits}
use Rattle.timetable.proofs.Changing.{taken_from}
use Rattle.timetable.proofs.Remarks.{marked_pop, last_has_bits, first_have_bits}
use Rattle.timetable.proofs.bit_sheet.change.BitSheetWritable.take_back.Goals as goal

taken_last : (bs left : List Booking) (o : Option Booking) (b : Booking) → bs ≡ left ++ option_to_list o → o ≡ Some b → bs ≡ left ++ b ∷ []
taken_last bs left o b is given = cc

taken_has_bits : (sheet : BitSheet) (left : List Booking) (o : Option Booking) (b : Booking) → vec_items sheet.bookings ≡ left ++ option_to_list o → o ≡ Some b → HasBits sheet.words_per_resource b
taken_has_bits sheet left o b is given =
    last_has_bits sheet.words_per_resource left b (subst (All (HasBits sheet.words_per_resource)) (taken_last (vec_items sheet.bookings) left o b is given) sheet.have_bits)

-- none was there, and none has gone
pub invariant_of-self : goal.invariant_of-self
invariant_of-self c =
    let sheet = c.args.self.now in
    let w = sheet.words_per_resource in
    let left = c.pop-newest.new.self.items in
    let none : c.pop-newest.result ≡ None = search rules in
    let same : vec_items sheet.bookings ≡ left = c.pop-newest.ensures.items ∙ ap (λ o. left ++ option_to_list o) none ∙ append-nil left in
    record {
      few = search rules;
      narrow = search rules;
      all_words = search rules;
      have_bits = subst (All (HasBits w)) same sheet.have_bits;
      are_marked = subst (AreMarked sheet.words.items w) same sheet.are_marked;
    }

pub first_bit-requires-clause-known : goal.first_bit-requires-clause-known
first_bit-requires-clause-known c = omega (arith, (taken_has_bits c.args.self.now c.pop-newest.new.self.items c.pop-newest.result c.in_ok-booking.booking c.pop-newest.ensures.items (search rules)).0)

pub clear_bits-requires-clause-in_words : goal.clear_bits-requires-clause-in_words
clear_bits-requires-clause-in_words c =
    let sheet = c.args.self.now in
    let has_bits = taken_has_bits sheet c.pop-newest.new.self.items c.pop-newest.result c.in_ok-booking.booking c.pop-newest.ensures.items (search rules) in
    omega (arith, has_bits, c.first_bit.ensures.in_words, c.deref_mut.ensures.len, sheet.words.ok, sheet.all_words)

pub invariant_of-self-2 : goal.invariant_of-self-2
invariant_of-self-2 c =
    let sheet = c.args.self.now in
    let w = sheet.words_per_resource in
    let b = c.in_ok-booking.booking in
    let left = c.pop-newest.new.self.items in
    let new = c.clear_bits.new.words in
    let same : vec_items sheet.bookings ≡ left ++ b ∷ [] = taken_last (vec_items sheet.bookings) left c.pop-newest.result b c.pop-newest.ensures.items (search rules) in
    let have_bits : All (HasBits w) (left ++ b ∷ []) = subst (All (HasBits w)) same sheet.have_bits in
    let marked : AreMarked c.deref_mut.result.now w (left ++ b ∷ []) = subst (λ ws. AreMarked ws w (left ++ b ∷ [])) (sym c.deref_mut.ensures.value) (subst (AreMarked sheet.words.items w) same sheet.are_marked) in
    let written : IsWritten c.deref_mut.result.now new 0 (64 * (b.resource * w) + b.start) (64 * (b.resource * w) + b.start + b.length) =
    subst (λ f. IsWritten c.deref_mut.result.now new 0 (f + b.start) (f + b.start + b.length)) c.first_bit.ensures.is c.clear_bits.ensures in
    let whole : take sheet.words.len (new ++ drop (length new) sheet.words.items) ≡ new = take_at new _ _ (omega (arith, c.clear_bits.auto.words, c.deref_mut.ensures.len)) in
    let marks : AreMarked new w left = marked_pop c.deref_mut.result.now new w left b (last_has_bits w left b have_bits) marked written in
    record {
      few = search rules;
      narrow = search rules;
      all_words = search rules;
      have_bits = first_have_bits w left b have_bits;
      are_marked = subst (λ ws. AreMarked ws w left) (sym whole) marks;
    }

-- the table before is the table after, with the booking that was taken
before : (h most most' : ℕ) (bs left : List Booking) (o : Option Booking) (b : Booking) → most' ≡ most → bs ≡ left ++ option_to_list o → o ≡ Some b
    → record { horizon = h; most = most; bookings = bs } ≡ with_booking (record { horizon = h; most = most'; bookings = left }) b
before h most most' bs left o b same is given = cc

pub returns-clause-answer : goal.returns-clause-answer
returns-clause-answer c =
    let given : c.pop-newest.result ≡ Some c.in_ok-booking.booking = search rules in
    sym (taken_from _ _ c.in_ok-booking.booking (before (64 * c.args.self.now.words_per_resource) _ _ _ _ _ _ c.pop-newest.ensures.capacity c.pop-newest.ensures.items given)).0

pub returns-clause-after : goal.returns-clause-after
returns-clause-after c =
    let given : c.pop-newest.result ≡ Some c.in_ok-booking.booking = search rules in
    sym (taken_from _ _ c.in_ok-booking.booking (before (64 * c.args.self.now.words_per_resource) _ _ _ _ _ _ c.pop-newest.ensures.capacity c.pop-newest.ensures.items given)).1
