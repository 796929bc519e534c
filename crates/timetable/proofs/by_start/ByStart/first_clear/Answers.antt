use Rattle.std.proofs.Common.{◌≡◌, ℕ, ◌+◌, ◌-◌, ◌<◌, ◌≤◌, List, length, get_or, take, drop, sym, refl, ap, subst, ◌∙◌, rules, arith}
use Rattle.std.specs.List.{list_any}
use Rattle.std.proofs.lemmas.List.{get_or-take, get_or-drop, length-take-le, length-drop}
use Rattle.model.specs.Bookings.{end, collide}
use Rattle.model.specs.declared.booking.Booking.{Booking}
use Rattle.timetable.specs.Order.{precedes}
use Rattle.timetable.specs.Tables.{span}
use Rattle.timetable.proofs.Passes.{IsPlace, Passed, clear_at_place, passed_moved}
use Rattle.timetable.proofs.by_start.ByStart.first_clear.Goals as goal

-- what is left of a list from a place on
abbrev rest : List Booking → ℕ → List Booking
rest bs i = take (length bs - i) (drop i bs)

rest_length : (bs : List Booking) (i : ℕ) → i ≤ length bs → length (rest bs i) ≡ length bs - i
rest_length bs i within = length-take-le (length bs - i) (drop i bs) (omega (arith, length-drop i bs))

rest_at : (bs : List Booking) (i k : ℕ) (z : Booking) → i + k < length bs → get_or (rest bs i) k z ≡ get_or bs (i + k) z
rest_at bs i k z within = get_or-take (length bs - i) (drop i bs) k z (omega arith) ∙ get_or-drop i bs k z

pub loop-b-init : goal.loop-b-init
loop-b-init c =
    let w = c.args.wanted in
    let i = c.place-first.result in
    let at : i ≡ i + 0 = omega arith in
    record {
      same = refl;
      passed = record {
        late_enough = omega arith;
        not_before = λ k late before. absurd (omega arith);
        place = subst (IsPlace w c.args.self.now.list.items) at c.place-first.ensures.splits;
      };
    }

pub loop-b-preserved : goal.loop-b-preserved
loop-b-preserved c =
    let own = c.args.self.now in
    let bs = own.list.items in
    let asked = c.args.wanted in
    let i = c.place-first.result in
    let k = c.loop-b.b-index in
    let z = span 0 0 0 in
    let slice = c.deref.ensures.value in
    let same = c.loop-b.invariant.same in
    let test : k < length (rest bs i) = subst (λ xs. k < length (rest xs i)) slice c.loop-b-test.true in
    let inside : i + k < length bs = omega (arith, rest_length bs i (omega arith)) in
    let item : get_or (rest c.deref.result.now i) k z ≡ get_or bs (i + k) z = ap (λ xs. get_or (rest xs i) k z) slice ∙ rest_at bs i k z inside in
    let not_before = sym (ap (λ b. precedes b (get_or bs (i + k) z)) same) ∙ sym (ap (precedes c.loop-b.wanted) item) ∙ sym c.precedes.ensures ∙ c.if-precedes.false in
    let value : c.end.result ≡ c.in_ok-wanted.field-0 = search rules in
    let to : end (get_or bs (i + k) z) ≡ c.in_ok-wanted.field-0 = sym (ap end item) ∙ sym c.end.ensures.value ∙ value in
    let next : i + k + 1 ≡ i + (k + 1) = omega arith in
    let moved = passed_moved bs own.in_order own.some_ticks asked.resource asked.length asked.start (i + k) c.loop-b.wanted.start z c.requires inside c.loop-b.invariant.passed not_before in
    record {
      same = ap (λ (b : Booking). record b { start = c.in_ok-wanted.field-0 }) same;
      passed = subst (λ s. Passed bs asked.resource asked.length asked.start (i + (k + 1)) s) to (subst (λ j. Passed bs asked.resource asked.length asked.start j (end (get_or bs (i + k) z))) next moved);
    }

-- where the booking at the place is behind the wanted one, or there is none
pub returns-then-precedes-clause-clear : goal.returns-then-precedes-clause-clear
returns-then-precedes-clause-clear c =
    let own = c.args.self.now in
    let bs = own.list.items in
    let asked = c.args.wanted in
    let i = c.place-first.result in
    let k = c.loop-b.b-index in
    let z = span 0 0 0 in
    let slice = c.deref.ensures.value in
    let same = c.loop-b.invariant.same in
    let test : k < length (rest bs i) = subst (λ xs. k < length (rest xs i)) slice c.loop-b-test.true in
    let inside : i + k < length bs = omega (arith, rest_length bs i (omega arith)) in
    let item : get_or (rest c.deref.result.now i) k z ≡ get_or bs (i + k) z = ap (λ xs. get_or (rest xs i) k z) slice ∙ rest_at bs i k z inside in
    let first = sym (ap (λ b. precedes b (get_or bs (i + k) z)) same) ∙ sym (ap (precedes c.loop-b.wanted) item) ∙ sym c.precedes.ensures ∙ c.if-precedes.true in
    ap (λ b. list_any (collide b) bs) same
    ∙ clear_at_place bs own.in_order own.some_ticks (span asked.resource c.loop-b.wanted.start asked.length) (i + k) z c.loop-b.invariant.passed.place (λ _. first)

pub returns-clause-clear : goal.returns-clause-clear
returns-clause-clear c =
    let own = c.args.self.now in
    let bs = own.list.items in
    let asked = c.args.wanted in
    let i = c.place-first.result in
    let k = c.loop-b.b-index in
    let test : length (rest bs i) ≤ k = subst (λ xs. length (rest xs i) ≤ k) c.deref.ensures.value c.loop-b-test.false in
    let past : length bs ≤ i + k = omega (arith, rest_length bs i (omega arith)) in
    ap (λ b. list_any (collide b) bs) c.loop-b.invariant.same
    ∙ clear_at_place bs own.in_order own.some_ticks (span asked.resource c.loop-b.wanted.start asked.length) (i + k) (span 0 0 0) c.loop-b.invariant.passed.place (λ inside. absurd (omega arith))
