-- Where the earliest start is booked: only a full table refuses it, and taking it back leaves the table as it was.
use Rattle.std.proofs.Common.{◌≡◌, ℕ, true, cond, Some, None, Ok, Err, Option, refl, ap, ◌∙◌, arith}
use Rattle.model.specs.declared.refusal.Refusal.{Refusal}
use Rattle.model.specs.declared.refusal.Refusal.TheVariants.{NoRoom, NoStart}
use Rattle.timetable.specs.Changes.{is_full, booked_answer, taken_back}
use Rattle.timetable.specs.Earliest.{earliest}
use Rattle.timetable.specs.Tables.{Table, span, free}
use Rattle.timetable.proofs.Changing.{take_back_undoes}
use Rattle.timetable.proofs.Earliests.{first_words}
use Rattle.timetable_tests.specs.Uses.{answer_at, earliest_booked_answer, booked_at, earliest_booked}

module _ (T : Table) (r from d : ℕ) where
  booked_free : (s : ℕ) → earliest T r from d ≡ Some s → booked_answer T (span r s d) ≡ cond (is_full T) (Err (NoRoom 1)) (Ok tt)
  booked_free s e =
      let is_free : free T r s d ≡ true = (first_words T r d from s e).free_there in
      ap (λ t. cond (is_full T) (Err (NoRoom 1)) (cond t (Ok tt) (Err (NoStart r)))) is_free

  pub refused : (s : ℕ) (e : Refusal) → earliest T r from d ≡ Some s → Err e ≡ booked_answer T (span r s d) → Err e ≡ earliest_booked_answer T r from d
  refused s e found is =
      let answer = booked_free s found in
      let same = ap (answer_at T r) found in
      grind arith

  pub undone : (s : ℕ) → Ok s ≡ earliest_booked_answer T r from d → taken_back (earliest_booked T r from d) ≡ T
  undone s is = go (earliest T r from d) refl
    where
      go : (o : Option ℕ) → earliest T r from d ≡ o → taken_back (earliest_booked T r from d) ≡ T
      go None e = let refused = is ∙ ap (answer_at T r) e in absurd (grind arith)
      go (Some k) e =
          let kept = is ∙ ap (answer_at T r) e in
          let answer = booked_free k e in
          let ok : booked_answer T (span r k d) ≡ Ok tt = grind arith in
          ap (λ o. taken_back (booked_at T r d o)) e ∙ (take_back_undoes T (span r k d) ok).table
