-- Booking and taking back: what they leave is sound, and the second undoes the first.
use Rattle.std.proofs.Common.{◌≡◌, ◌-◌, true, false, [], ◌∷◌, ◌++◌, length, take, is_ok, Some, Ok, sym, refl, ap, subst, ◌∙◌, ⊎_elim, arith}
use Rattle.std.specs.List.{slice_get}
use Rattle.std.specs.Option.{ok_or}
use Rattle.std.proofs.lemmas.Bool.{cases_Bool, cond-true, cond-false}
use Rattle.std.proofs.lemmas.List.{length_push, get_or_push, take_at}
use Rattle.std.proofs.lemmas.Option.{slice_get-get_or}
use Rattle.model.specs.declared.booking.Booking.{Booking}
use Rattle.model.specs.declared.refusal.Refusal.TheVariants.{NothingToTakeBack}
use Rattle.timetable.specs.Tables.{Table}
use Rattle.timetable.specs.Changes.{is_full, is_free_for, with_booking, booked_answer, booked, newest, without_newest, taken_back_answer, taken_back}
use Rattle.timetable.specs.Sound.{Sound}
use Rattle.timetable.specs.Laws.{BookKeepsSound, TakeBackKeepsSound, TakeBackUndoes}
use Rattle.timetable.proofs.Pairs.{part_take}
use Rattle.timetable.proofs.Sounds.{sound_where_free, sound_in_part}

-- what is booked is free, and there is room for it
pub booked_free : (T : Table) (b : Booking) → is_ok (booked_answer T b) ≡ true → (is_full T ≡ false) × (is_free_for T b ≡ true)
booked_free T b e = (grind arith, grind arith)

pub book_keeps_sound : BookKeepsSound
book_keeps_sound T b sound =
    ⊎_elim
    (λ ok. subst Sound (sym (cond-true _ (with_booking T b) T ok)) (sound_where_free T b sound (booked_free T b ok).1))
    (λ refused. subst Sound (sym (cond-false _ (with_booking T b) T refused)) sound)
    (cases_Bool (is_ok (booked_answer T b)))

pub take_back_keeps_sound : TakeBackKeepsSound
take_back_keeps_sound T sound =
    ⊎_elim
    (λ ok. subst Sound (sym (cond-true _ (without_newest T) T ok)) (sound_in_part (without_newest T) T (part_take (length T.bookings - 1) T.bookings) sound))
    (λ refused. subst Sound (sym (cond-false _ (without_newest T) T refused)) sound)
    (cases_Bool (is_ok (taken_back_answer T)))

pub newest_with_booking : (T : Table) (b : Booking) → newest (with_booking T b) ≡ Some b
newest_with_booking T b =
    let last : length (T.bookings ++ b ∷ []) - 1 ≡ length T.bookings = omega (arith, length_push T.bookings b) in
    ap (slice_get (T.bookings ++ b ∷ [])) last
    ∙ slice_get-get_or (T.bookings ++ b ∷ []) (length T.bookings) b (omega (arith, length_push T.bookings b))
    ∙ ap Some (get_or_push T.bookings b b (length T.bookings) refl)

pub without_newest_with_booking : (T : Table) (b : Booking) → without_newest (with_booking T b) ≡ T
without_newest_with_booking T b =
    let last : length (T.bookings ++ b ∷ []) - 1 ≡ length T.bookings = omega (arith, length_push T.bookings b) in
    ap (λ bs. record T { bookings = bs }) (ap (λ n. take n (T.bookings ++ b ∷ [])) last ∙ take_at T.bookings (b ∷ []) (length T.bookings) refl)

-- what is taken back is what was added, and what was there before is left
pub taken_from : (T U : Table) (b : Booking) → T ≡ with_booking U b → (taken_back_answer T ≡ Ok b) × (taken_back T ≡ U)
taken_from T U b e =
    let given = newest_with_booking U b in (
      ap taken_back_answer e ∙ ap (λ o. ok_or o NothingToTakeBack) given,
      ap taken_back e ∙ cond-true _ (without_newest (with_booking U b)) (with_booking U b) (ap (λ o. is_ok (ok_or o NothingToTakeBack)) given) ∙ without_newest_with_booking U b,
    )

pub take_back_undoes : TakeBackUndoes
take_back_undoes T b ok =
    let taken = taken_from (booked T b) T b (cond-true _ (with_booking T b) T (ap is_ok ok)) in
    record { answer = taken.0; table = taken.1 }
