-- The bits of a sheet after a booking has come or gone.
use Rattle.std.proofs.Common.{◌≡◌, ℕ, ◌+◌, ◌*◌, ◌<◌, ◌≤◌, ◌⊎◌, true, false, cond, List, [], ◌∷◌, ◌++◌, All, inl, inr, refl, sym, ap, subst, ◌∙◌, ⊎_elim, arith}
use Rattle.std.specs.List.{list_any}
use Rattle.std.proofs.lemmas.Bool.{both_ways, cases_Bool, cases_lt, cases_eq}
use Rattle.std.proofs.lemmas.List.Elements.{All-contains, Contains-append_left, Contains-push, Contains-get_or}
use Rattle.std.proofs.lemmas.List.Sums.{sum_by-cons, sum_by-append}
use Rattle.std.proofs.lemmas.Nat.{row_fits}
use Rattle.std.proofs.lemmas.Nat.Bits.{bit_at-lt}
use Rattle.model.specs.Bookings.{end, collide}
use Rattle.model.specs.declared.booking.Booking.{Booking}
use Rattle.timetable.specs.Apart.{HasTick}
use Rattle.timetable.specs.Bits.{bit_of, IsWritten}
use Rattle.timetable.specs.Marks.{tick_bit, takers, AreMarked, HasBits}
use Rattle.timetable.specs.Tables.{span}
use Rattle.timetable.proofs.Frees.{collide_in_words}
use Rattle.timetable.proofs.Marked.{no_taker, tick_bit_is}

-- one booking more

-- 1 where the booking is one of r and has tick t
abbrev pub takes : Booking → ℕ → ℕ → ℕ
takes b r t = cond (collide (span r t 1) b) 1 0

takers_push : (bs : List Booking) (b : Booking) (r t : ℕ) → takers (bs ++ b ∷ []) r t ≡ takers bs r t + takes b r t
takers_push bs b r t =
    let f = λ (a : Booking). takes a r t in
    omega (arith, sum_by-append f bs (b ∷ []), sum_by-cons f b [])

of_tick : (b : Booking) (r t : ℕ) → collide (span r t 1) b ≡ true → (r ≡ b.resource) × HasTick b t
of_tick b r t e =
    let m = (collide_in_words (span r t 1) b).0 e in
    let at : m.1.0 ≡ t = omega (arith, m.1.1) in
    (m.0, (omega (arith, m.1.2), omega (arith, m.1.2)))

not_of_tick : (b : Booking) (t : ℕ) → collide (span b.resource t 1) b ≡ false → HasTick b t → ⊥
not_of_tick b t e has = both_ways _ e ((collide_in_words (span b.resource t 1) b).1 (refl, (t, (omega arith, omega arith), has)))

module _ (words new : List ℕ) (w v : ℕ) (b : Booking) (has_bits : HasBits w b) (written : IsWritten words new v (64 * (b.resource * w) + b.start) (64 * (b.resource * w) + b.start + b.length)) where
  -- its ticks have the bit that was written
  inside : (r t : ℕ) → collide (span r t 1) b ≡ true → tick_bit new w r t ≡ v
  inside r t e =
      let h = of_tick b r t e in
      tick_bit_is new w r t ∙ ap (λ q. bit_of new (64 * (q * w) + t)) h.0 ∙ written.inside (64 * (b.resource * w) + t) (omega (arith, h.1)) (omega (arith, h.1))

  -- every other tick lies before them or behind
  beside : (r t : ℕ) → t < 64 * w → collide (span r t 1) b ≡ false
      → (64 * (r * w) + t < 64 * (b.resource * w) + b.start) ⊎ (64 * (b.resource * w) + b.start + b.length ≤ 64 * (r * w) + t)
  beside r t in_time e =
      ⊎_elim
      (λ same.
      let e' : collide (span b.resource t 1) b ≡ false = subst (λ q. collide (span q t 1) b ≡ false) same e in
      let row : r * w ≡ b.resource * w = ap (λ q. q * w) same in
      ⊎_elim (λ before. inl (omega arith))
      (λ late. ⊎_elim (λ early. absurd (not_of_tick b t e' (late, early))) (λ behind. inr (omega arith)) (cases_lt t (end b)))
      (cases_lt t b.start))
      (λ other.
      ⊎_elim (λ lower. let row = row_fits r w b.resource w lower (omega arith) in inl (omega (arith, row)))
      (λ higher. let row = row_fits b.resource w r w (omega arith) (omega arith) in inr (omega (arith, row, has_bits)))
      (cases_lt r b.resource))
      (cases_eq r b.resource)

  outside : (r t : ℕ) → t < 64 * w → collide (span r t 1) b ≡ false → tick_bit new w r t ≡ tick_bit words w r t
  outside r t in_time e = tick_bit_is new w r t ∙ written.outside (64 * (r * w) + t) (beside r t in_time e) ∙ sym (tick_bit_is words w r t)

module _ (words new : List ℕ) (w : ℕ) (bs : List Booking) (b : Booking) (has_bits : HasBits w b) where
  -- it comes where its ticks are clear, and they are set
  pub marked_push :
      AreMarked words w bs → list_any (collide b) bs ≡ false
      → IsWritten words new 1 (64 * (b.resource * w) + b.start) (64 * (b.resource * w) + b.start + b.length)
      → AreMarked new w (bs ++ b ∷ [])
  marked_push marked clear written = record {
    each = λ r t known in_time.
        ⊎_elim
        (λ yes.
        let h = of_tick b r t yes in
        let none : takers bs r t ≡ 0 = ap (λ q. takers bs q t) h.0 ∙ no_taker bs b.resource b.start b.length clear t h.1.0 h.1.1 in
        let one : takes b r t ≡ 1 = ap (λ x. cond x 1 0) yes in
        omega (arith, inside words new w 1 b has_bits written r t yes, takers_push bs b r t))
        (λ no.
        let none : takes b r t ≡ 0 = ap (λ x. cond x 1 0) no in
        omega (arith, outside words new w 1 b has_bits written r t in_time no, marked.each r t known in_time, takers_push bs b r t))
        (cases_Bool (collide (span r t 1) b));
  }

  -- it goes, and its ticks are cleared: no other booking has one of them
  pub marked_pop :
      AreMarked words w (bs ++ b ∷ [])
      → IsWritten words new 0 (64 * (b.resource * w) + b.start) (64 * (b.resource * w) + b.start + b.length)
      → AreMarked new w bs
  marked_pop marked written = record {
    each = λ r t known in_time.
        let before = marked.each r t known in_time in
        let push = takers_push bs b r t in
        ⊎_elim
        (λ yes.
        let one : takes b r t ≡ 1 = ap (λ x. cond x 1 0) yes in
        omega (arith, inside words new w 0 b has_bits written r t yes, tick_bit_is words w r t, tick_lt r t, before, push))
        (λ no.
        let none : takes b r t ≡ 0 = ap (λ x. cond x 1 0) no in
        omega (arith, outside words new w 0 b has_bits written r t in_time no, before, push))
        (cases_Bool (collide (span r t 1) b));
  }
    where
      tick_lt : (r t : ℕ) → tick_bit words w r t < 2
      tick_lt r t = bit_at-lt _ _

-- which bookings have bits

module _ (w : ℕ) (bs : List Booking) (b : Booking) (all : All (HasBits w) (bs ++ b ∷ [])) where
  pub last_has_bits : HasBits w b
  last_has_bits = All-contains (HasBits w) (bs ++ b ∷ []) b all (Contains-push bs b)

  pub first_have_bits : All (HasBits w) bs
  first_have_bits = λ k x within. All-contains (HasBits w) (bs ++ b ∷ []) _ all (Contains-append_left bs (b ∷ []) _ (Contains-get_or bs k x within))
