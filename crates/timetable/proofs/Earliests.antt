-- `earliest` is the first free start, and is the tick that was asked from or an end of a booking.
use Rattle.std.proofs.Common.{◌≡◌, ℕ, zero, suc, ◌+◌, ◌-◌, ◌<◌, ◌≤◌, min, max, Bool, true, false, ◌&&◌, ◌⊎◌, List, [], ◌∷◌, map, filter, length, get_or, All, Contains, Some, None, Option, ◌==◌, nat_le, sym, refl, ap, subst, ◌∙◌, inl, inr, ⊎_elim, arith}
use Rattle.std.specs.List.{list_any}
use Rattle.std.proofs.lemmas.Bool.{both_ways, true_from_ne_false, cases_Bool, cases_lt, cond-true, cond-false, eqb-true, eq-eqb, leb-true, le-leb, and_parts, and_from, false_from_ne_true}
use Rattle.std.proofs.lemmas.List.{length-map, get_or-map}
use Rattle.std.proofs.lemmas.List.Elements.{All-contains, All-cons, All-head, All-tail, All-filter, All-map, filter_passes, filter_agree, All-contains_itself, Contains-append_right}
use Rattle.std.proofs.lemmas.List.Folds.{Any-from_list_any}
use Rattle.model.specs.Bookings.{end, collide}
use Rattle.model.specs.declared.booking.Booking.{Booking}
use Rattle.model.proofs.Firsts.{some≢none}
use Rattle.timetable.specs.Tables.{Table, bookings_of, span, free}
use Rattle.timetable.specs.Earliest.{lesser, least, starts_to_try, earliest}
use Rattle.timetable.specs.Apart.{HasTick, Apart}
use Rattle.timetable.specs.Laws.{IsFree, IsEarliest, EarliestIsFirst, NoEarliest, IsAnEnd, EarliestIsAnEnd, EarliestByItsOwn}
use Rattle.timetable.proofs.Frees.{collide_in_words, clear_from_test, words_from_free, free_from_words, free_by_its_own}

-- the least of some numbers

-- the answer is a number at x or below
abbrev pub Below : ℕ → Option ℕ → Type 0
Below x o = (s : ℕ) × (o ≡ Some s) × (s ≤ x)

lesser_le : (x : ℕ) (o : Option ℕ) → lesser x o ≤ x
lesser_le x None = omega arith
lesser_le x (Some y) = omega arith

lesser_below : (x y : ℕ) (o : Option ℕ) → Below y o → lesser x o ≤ y
lesser_below x y None h = absurd (some≢none (sym h.1))
lesser_below x y (Some z) h = let same : z ≡ h.0 = cc h.1 in omega (arith, h.2)

least_below : (xs : List ℕ) (k d : ℕ) → k < length xs → Below (get_or xs k d) (least xs)
least_below [] k d within = absurd (omega arith)
least_below (x ∷ xs) zero d within = (lesser x (least xs), refl, lesser_le x (least xs))
least_below (x ∷ xs) (suc k) d within =
    (lesser x (least xs), refl, lesser_below x (get_or xs k d) (least xs) (least_below xs k d (omega arith)))

-- what holds of each number holds of the least
least_all : (P : ℕ → Type 0) (xs : List ℕ) (s : ℕ) → All P xs → least xs ≡ Some s → P s
least_all P [] s all e = absurd (some≢none (sym e))
least_all P (x ∷ xs) s all e = go (least xs) refl (λ y h. least_all P xs y (All-tail P x xs all) h)
  where
    go : (o : Option ℕ) → least xs ≡ o → ((y : ℕ) → least xs ≡ Some y → P y) → P s
    go None none rest = let same : x ≡ s = cc in subst P same (All-head P x xs all)
    go (Some y) some rest =
        let is : min x y ≡ s = cc in
        ⊎_elim
        (λ h. let same : x ≡ s = omega arith in subst P same (All-head P x xs all))
        (λ h. let same : y ≡ s = omega arith in subst P same (rest y some))
        (cases_lt x y)

-- a filter keeps what passes
filter_contains : {X : Type 0} (p : X → Bool) (xs : List X) (k : ℕ) (d : X) → k < length xs → p (get_or xs k d) ≡ true → Contains (filter p xs) (get_or xs k d)
filter_contains p [] k d within e = absurd (omega arith)
filter_contains {X} p (x ∷ xs) zero d within e =
    let P : List X → Type 0 = λ l. Contains l x in
    subst P (sym (cond-true (p x) _ _ e)) (0, omega arith, refl)
filter_contains {X} p (x ∷ xs) (suc k) d within e =
    let P : List X → Type 0 = λ l. Contains l (get_or xs k d) in
    let rest = filter_contains p xs k d (omega arith) e in
    ⊎_elim
    (λ passes. subst P (sym (cond-true (p x) _ _ passes)) (Contains-append_right (x ∷ []) (filter p xs) _ rest))
    (λ fails. subst P (sym (cond-false (p x) _ _ fails)) rest)
    (cases_Bool (p x))

filter_passing : {X : Type 0} (p : X → Bool) (xs : List X) (x : X) → Contains xs x → p x ≡ true → Contains (filter p xs) x
filter_passing p xs x there e =
    let same : get_or xs there.0 x ≡ x = there.2 in
    subst (Contains (filter p xs)) same (filter_contains p xs there.0 x there.1 (ap p same ∙ e))

map_contains : {X Y : Type 0} (f : X → Y) (xs : List X) (x : X) → Contains xs x → Contains (map f xs) (f x)
map_contains f xs x there = (there.0, simp length-map there.1, get_or-map f xs there.0 x (f x) there.1 ∙ ap f there.2)

-- where a resource becomes free, a booking of it ends

ends : (r d s : ℕ) (b : Booking) → 1 ≤ d → collide (span r s d) b ≡ true → Apart (span r (suc s) d) b → (b.resource ≡ r) × (end b ≡ suc s)
ends r d s b some_tick e apart =
    let m = (collide_in_words (span r s d) b).0 e in
    let t = m.1.0 in
    let asked : HasTick (span r s d) t = m.1.1 in
    let booked : HasTick b t = m.1.2 in (
      sym m.0,
      ⊎_elim
          (λ later. absurd (apart (m.0, (max t (suc s), (omega arith, omega arith), (omega arith, omega arith)))))
          (λ no_later. omega arith)
          (cases_lt (suc s) (end b)),
    )

module _ (T : Table) (r d : ℕ) where
  becomes_free : (s : ℕ) → free T r s d ≡ false → free T r (suc s) d ≡ true → Contains (map end (bookings_of T r)) (suc s)
  becomes_free s before after =
      let f = words_from_free T r (suc s) d after in
      let in_way = Any-from_list_any (collide (span r s d)) T.bookings (taken f) in
      let b = in_way.1 in
      let there : Contains T.bookings b = (in_way.0, in_way.2, in_way.3) in
      let e = ends r d s b f.some_tick in_way.4 (All-contains (Apart (span r (suc s) d)) T.bookings b f.clear there) in
      subst (Contains (map end (bookings_of T r))) e.1 (map_contains end (bookings_of T r) b (filter_passing (λ a. a.resource == r) T.bookings b there (eq-eqb _ _ e.0)))
    where
      taken : IsFree T r (suc s) d → list_any (collide (span r s d)) T.bookings ≡ true
      taken f =
          true_from_ne_false _ (λ clear.
          both_ways _ before (free_from_words T r s d (record {
            some_tick = f.some_tick;
            in_time = omega (arith, f.in_time);
            known = f.known;
            clear = clear_from_test _ _ clear;
          })))

  -- it passes the test of a start to try
  abbrev Tried : ℕ → ℕ → Type 0
  Tried from s = (nat_le from s && free T r s d) ≡ true

  -- at a free start or before it stands a free start that is tried
  candidate : (from n : ℕ) → free T r (from + n) d ≡ true → (c : ℕ) × Contains (starts_to_try T r from) c × Tried from c × (c ≤ from + n)
  candidate from zero e =
      let here : from + 0 ≡ from = omega arith in
      let e' : free T r from d ≡ true = rw here at e in
      (from, (0, omega arith, refl), and_from _ _ (le-leb from from (omega arith)) e', omega arith)
  candidate from (suc n) e =
      let here : from + suc n ≡ suc (from + n) = omega arith in
      let e' : free T r (suc (from + n)) d ≡ true = rw here at e in
      ⊎_elim
      (λ earlier. let c = candidate from n earlier in (c.0, c.1, c.2, omega (arith, c.3)))
      (λ before. (
        suc (from + n),
        Contains-append_right (from ∷ []) (map end (bookings_of T r)) _ (becomes_free (from + n) before e'),
        and_from _ _ (le-leb from (suc (from + n)) (omega arith)) e',
        omega arith,
      ))
      (cases_Bool (free T r (from + n) d))

  -- so the earliest is at a free start or before it
  reaches : (from k : ℕ) → from ≤ k → free T r k d ≡ true → Below k (earliest T r from d)
  unfolding earliest
  reaches from k late e =
      let here : from + (k - from) ≡ k = omega arith in
      let c = candidate from (k - from) (rw here e) in
      let p = λ (s : ℕ). nat_le from s && free T r s d in
      let tried = filter_passing p (starts_to_try T r from) c.0 c.1 c.2 in
      let found = least_below (filter p (starts_to_try T r from)) tried.0 c.0 tried.1 in
      (found.0, found.1, omega (arith, found.2, tried.2, c.3))

  holds : (from s : ℕ) → earliest T r from d ≡ Some s → (from ≤ s) × (free T r s d ≡ true)
  unfolding earliest
  holds from s e =
      let p = λ (k : ℕ). nat_le from k && free T r k d in
      let h = and_parts _ _ (least_all (λ k. p k ≡ true) (filter p (starts_to_try T r from)) s (filter_passes p (starts_to_try T r from)) e) in
      (leb-true from s h.0, h.1)

  pub first_words : (from s : ℕ) → earliest T r from d ≡ Some s → IsEarliest T r from d s
  first_words from s e =
      let h = holds from s e in
      record {
        late_enough = h.0;
        free_there = h.1;
        not_before = λ k late sooner. false_from_ne_true _ (λ free_here.
            let found = reaches from k late free_here in
            let same : found.0 ≡ s = cc (found.1, e) in
            absurd (omega (arith, found.2)));
      }

  pub words_first : (from s : ℕ) → IsEarliest T r from d s → earliest T r from d ≡ Some s
  words_first from s first =
      let found = reaches from s first.late_enough first.free_there in
      let h = holds from found.0 found.1 in
      let same : found.0 ≡ s =
      ⊎_elim (λ sooner. absurd (both_ways _ (first.not_before found.0 h.0 sooner) h.1)) (λ no_sooner. omega (arith, found.2)) (cases_lt found.0 s) in
      found.1 ∙ ap Some same

  pub none_words : (from : ℕ) → earliest T r from d ≡ None → (s : ℕ) → from ≤ s → free T r s d ≡ false
  none_words from none s late = false_from_ne_true _ (λ e. let found = reaches from s late e in some≢none (sym found.1 ∙ none))

  pub words_none : (from : ℕ) → ((s : ℕ) → from ≤ s → free T r s d ≡ false) → earliest T r from d ≡ None
  words_none from never = go (earliest T r from d) refl
    where
      go : (o : Option ℕ) → earliest T r from d ≡ o → o ≡ None
      go None e = refl
      go (Some s) e = let h = holds from s e in absurd (both_ways _ (never s h.0) h.1)

pub earliest_is_first : EarliestIsFirst
earliest_is_first T r from d s = (first_words T r d from s, words_first T r d from s)

pub no_earliest : NoEarliest
no_earliest T r from d = (none_words T r d from, words_none T r d from)

pub earliest_is_an_end : EarliestIsAnEnd
unfolding earliest
earliest_is_an_end T r from d s e =
    let P : ℕ → Type 0 = λ k. (k ≡ from) ⊎ IsAnEnd T r k in
    let p = λ (k : ℕ). nat_le from k && free T r k d in
    let own = All-filter (λ b. b.resource == r) (Contains T.bookings) T.bookings (All-contains_itself T.bookings) in
    let of_r = filter_passes (λ b. b.resource == r) T.bookings in
    let an_end = All-map P end (bookings_of T r) (λ k b within. inr (get_or (bookings_of T r) k b, own k b within, eqb-true _ _ (of_r k b within), refl)) in
    least_all P (filter p (starts_to_try T r from)) s (All-filter p P (starts_to_try T r from) (All-cons P from (map end (bookings_of T r)) (inl refl) an_end)) e

pub earliest_by_its_own : EarliestByItsOwn
unfolding earliest
earliest_by_its_own T U r from d same own =
    ap (λ bs. least (filter (λ s. nat_le from s && free T r s d) (from ∷ map end bs))) own
    ∙ ap least (filter_agree (λ s. nat_le from s && free T r s d) (λ s. nat_le from s && free U r s d) (λ s. ap (λ b. nat_le from s && b) (free_by_its_own T U r s d same own)) (starts_to_try U r from))
