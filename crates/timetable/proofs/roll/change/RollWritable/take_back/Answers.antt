use Rattle.std.proofs.Common.{◌≡◌, ℕ, List, [], ◌∷◌, ◌++◌, Some, Option, vec_items, Contains, sym, subst, ap, ◌∙◌, rules}
use Rattle.std.specs.Option.{option_to_list}
use Rattle.std.proofs.lemmas.List.Elements.{Contains-push}
use Rattle.model.specs.declared.booking.Booking.{Booking}
use Rattle.timetable.specs.Changes.{with_booking}
use Rattle.timetable.proofs.Changing.{taken_from}
use Rattle.timetable.proofs.Counts.{contains_same}
use Rattle.timetable.proofs.roll.change.RollWritable.take_back.Goals as goal

pub remove-requires : goal.remove-requires
remove-requires c =
    let roll = c.args.self.now in
    let b = c.in_ok-booking.booking in
    let given : c.pop-newest.result ≡ Some b = search rules in
    let left : vec_items roll.bookings ≡ c.pop-newest.new.self.items ++ b ∷ [] = c.pop-newest.ensures.items ∙ ap (λ o. c.pop-newest.new.self.items ++ option_to_list o) given in
    let there : Contains (vec_items roll.bookings) b = subst (λ bs. Contains bs b) (sym left) (Contains-push c.pop-newest.new.self.items b) in
    contains_same (vec_items roll.bookings) roll.by_start.list.items roll.same_bookings b there

-- the table before is the table after, with the booking that was taken
before : (h most most' : ℕ) (bs left : List Booking) (o : Option Booking) (b : Booking) → most' ≡ most → bs ≡ left ++ option_to_list o → o ≡ Some b
    → record { horizon = h; most = most; bookings = bs } ≡ with_booking (record { horizon = h; most = most'; bookings = left }) b
before h most most' bs left o b same is given = cc

pub returns : goal.returns
returns c =
    let given : c.pop-newest.result ≡ Some c.in_ok-booking.booking = search rules in
    let taken = taken_from _ _ c.in_ok-booking.booking (before 2000000000 _ _ _ _ _ _ c.pop-newest.ensures.capacity c.pop-newest.ensures.items given) in
    record { answer = sym taken.0; after = sym taken.1 }
