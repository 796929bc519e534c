-- Where a question was answered and there is room, the timetable takes the booking.
use Rattle.std.proofs.Common.{◌≡◌, ℕ, ◌^◌, ◌≤◌, Bool, true, false, Some, None, Ok, Err, Option, is_ok, ok_or, if◌then◌else◌, refl, ap, ◌∙◌, arith}
use Rattle.model.specs.declared.refusal.Refusal.{Refusal}
use Rattle.model.specs.declared.refusal.Refusal.TheVariants.{NoRoom, NoStart}
use Rattle.timetable.specs.Changes.{is_full, with_booking, booked_answer}
use Rattle.timetable.specs.Earliest.{earliest}
use Rattle.timetable.specs.Tables.{Table, span, free}
use Rattle.timetable.proofs.Earliests.{earliest_is_first, no_earliest}
use Rattle.timetable.proofs.Frees.{free_in_words}
use Rattle.planner.specs.Laws.{AnsweredIsTaken}
use Rattle.planner.specs.Transfers.{ask}

from_ok : (o : Option ℕ) (e : Refusal) (s : ℕ) → ok_or o e ≡ Ok s → o ≡ Some s
from_ok (Some x) e s h = cc h
from_ok None e s h = cc h

pub answered_is_taken : AnsweredIsTaken
answered_is_taken T r from d s h room =
    let at : earliest T r from d ≡ Some s = from_ok (earliest T r from d) (NoStart r) s h in
    let is_free : free T r s d ≡ true = ((earliest_is_first T r from d s).0 at).free_there in
    let b = span r s d in
    let taken : booked_answer T b ≡ Ok tt =
    ap (λ full. if full then Err (NoRoom 1) else (if free T r s d then Ok tt else Err (NoStart r))) room
    ∙ ap (λ clear. if clear then Ok tt else Err (NoStart r)) is_free
    in
    record { answer = taken; table = ap (λ a. if is_ok a then with_booking T b else T) taken }

-- every horizon is before the last tick, so from beyond the ticks on nothing is free
pub none_from_beyond : (T : Table) (r from d : ℕ) → T.horizon ≤ 2000000000 → 2 ^ 32 ≤ from → earliest T r from d ≡ None
none_from_beyond T r from d low beyond = (no_earliest T r from d).1 (λ s later. never s later (free T r s d) refl)
  where
    never : (s : ℕ) → from ≤ s → (b : Bool) → free T r s d ≡ b → b ≡ false
    never s later false e = refl
    never s later true e = absurd (omega (arith, ((free_in_words T r s d).0 e).in_time))

-- so a booking at the earliest start is not refused where there is room
pub earliest_taken : (T : Table) (r from d s : ℕ) (e : Refusal) → earliest T r from d ≡ Some s → is_full T ≡ false → booked_answer T (span r s d) ≡ Err e → ⊥
earliest_taken T r from d s e at room refused =
    let answer : ask T r from d ≡ Ok s = ap (λ o. ok_or o (NoStart r)) at in
    let taken = (answered_is_taken T r from d s answer room).answer in
    cc (taken, refused)
