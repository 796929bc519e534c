-- When a table is sound: with one booking more, in another order, in part.
use Rattle.std.proofs.Common.{◌<◌, [], ◌∷◌, length, sym, refl, ap, arith}
use Rattle.std.proofs.lemmas.List.{get_or_append_left, get_or_push, length_push}
use Rattle.std.proofs.lemmas.List.Quantifiers.{all_pairs_push}
use Rattle.model.specs.declared.booking.Booking.{Booking}
use Rattle.timetable.specs.Apart.{Apart}
use Rattle.timetable.specs.Sound.{Sound}
use Rattle.timetable.specs.Laws.{SoundByTest, SoundWhenEmpty, SoundWithOneMore, SoundWhereFree, SoundInAnyOrder, SoundInPart}
use Rattle.timetable.proofs.Frees.{apart_from_test, test_from_apart, words_from_free}
use Rattle.timetable.proofs.Pairs.{all_pairs_part, all_pairs_permutation}

pub apart_turned : (a b : Booking) → Apart a b → Apart b a
apart_turned a b apart = λ m. apart (sym m.0, (m.1.0, m.1.2, m.1.1))

pub sound_by_test : SoundByTest
unfolding Sound
sound_by_test T = (
  λ sound i j d before within. test_from_apart _ _ (sound i j d before within),
  λ tests i j d before within. apart_from_test _ _ (tests i j d before within),
)

pub sound_when_empty : SoundWhenEmpty
unfolding Sound
sound_when_empty T empty = λ i j d before within. absurd (omega (arith, ap length empty))

pub sound_with_one_more : SoundWithOneMore
unfolding Sound
sound_with_one_more T b = (
  λ sound. (
    λ i j d before within.
        let here = sound i j d before (omega (arith, length_push T.bookings b, within)) in
        let i_in : i < length T.bookings = omega arith in
        rw (← get_or_append_left T.bookings (b ∷ []) d i i_in, ← get_or_append_left T.bookings (b ∷ []) d j within) here,
    λ k d within.
        let here = sound k (length T.bookings) d within (omega (arith, length_push T.bookings b)) in
        let k_at = get_or_append_left T.bookings (b ∷ []) d k within in
        let b_at = get_or_push T.bookings b d (length T.bookings) refl in
        apart_turned _ _ (rw (k_at, b_at) at here),
  ),
  λ (sound, clear). all_pairs_push Apart T.bookings b sound (λ k d within. apart_turned _ _ (clear k d within)),
)

pub sound_where_free : SoundWhereFree
sound_where_free T b sound e = (sound_with_one_more T b).1 (sound, (words_from_free T b.resource b.start b.length e).clear)

pub sound_in_any_order : SoundInAnyOrder
unfolding Sound
sound_in_any_order T U moved sound = all_pairs_permutation Apart apart_turned T.bookings U.bookings moved sound

pub sound_in_part : SoundInPart
unfolding Sound
sound_in_part T U part sound = all_pairs_part Apart part sound
