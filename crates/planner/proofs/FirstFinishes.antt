-- A task is placed on the lowest of the machines on which it finishes first, and refused if every machine refuses it.
use Rattle.std.proofs.Common.{◌≡◌, ℕ, zero, suc, ◌+◌, ◌<◌, ◌≤◌, Bool, true, false, ◌⊎◌, List, Some, None, Ok, Err, Option, Result, is_ok, ok_or, filter_map, if◌then◌else◌, refl, sym, ap, subst, ◌∙◌, inl, inr, ⊎_elim, arith}
use Rattle.std.specs.Bool.{nat_lt}
use Rattle.std.specs.List.{range_with_len, cons_option}
use Rattle.std.specs.Result.{result_ok}
use Rattle.std.proofs.lemmas.Bool.{cases_lt}
use Rattle.std.proofs.lemmas.Bool.Decides.{nat_tests}
use Rattle.model.specs.Data.{JobData, NetData, station_count}
use Rattle.model.specs.declared.refusal.Refusal.{Refusal}
use Rattle.model.specs.declared.refusal.Refusal.TheVariants.{EveryMachineRefuses}
use Rattle.routes.specs.Legs.{Ways}
use Rattle.planner.specs.FillLaws.{FinishesFirst, PlacedWhereFirst, RefusedByAll}
use Rattle.planner.specs.Filling.{earlier, earliest_of}
use Rattle.planner.specs.Outcomes.{DrawState}
use Rattle.planner.specs.Placing.{placed}

-- a finish, and the state then
abbrev pub End : Type 0
End = ℕ × DrawState

module _ (ends : ℕ → Option End) where
  -- the ends on the n machines from low on
  abbrev pub ends_on : ℕ → ℕ → List End
  ends_on low n = filter_map ends (range_with_len low n)

  -- x is the end on some machine, none ends earlier, and no lower one so early
  record IsFirst (low n : ℕ) (x : End) : Type 0 where
    pub machine : ℕ
    pub above : low ≤ machine
    pub below : machine < low + n
    pub there : ends machine ≡ Some x
    pub none_earlier : (m : ℕ) (y : End) → low ≤ m → m < low + n → ends m ≡ Some y → x.0 ≤ y.0
    pub none_lower : (m : ℕ) (y : End) → low ≤ m → m < machine → ends m ≡ Some y → x.0 < y.0

  -- what is said of the ends on some machines, given the first of them
  abbrev Told : ℕ → ℕ → Option End → Type 0
  Told low n None = (m : ℕ) → low ≤ m → m < low + n → ends m ≡ None
  Told low n (Some x) = IsFirst low n x

  some≢none : (x : End) → Some x ≡ None → ⊥
  some≢none x e = cc e

  none_here : (low n : ℕ) (o : Option End) → ends low ≡ None → Told (low + 1) n o → Told low (suc n) o
  none_here low n None here told = λ m above below. ⊎_elim (λ same. subst (λ k. ends k ≡ None) (sym same) here) (λ other. told m (omega (arith, other)) (omega arith)) (split m above)
    where
      split : (m : ℕ) → low ≤ m → (m ≡ low) ⊎ (low + 1 ≤ m)
      split m above = ⊎_elim (λ less. inr (omega arith)) (λ more. inl (omega arith)) (cases_lt low m)
  none_here low n (Some x) here told = record {
    machine = told.machine;
    above = omega (arith, told.above);
    below = omega (arith, told.below);
    there = told.there;
    none_earlier = λ m y above below at. ⊎_elim (λ less. told.none_earlier m y (omega arith) (omega arith) at) (λ more. absurd (not_here m y above more at)) (cases_lt low m);
    none_lower = λ m y above below at. ⊎_elim (λ less. told.none_lower m y (omega arith) below at) (λ more. absurd (not_here m y above more at)) (cases_lt low m);
  }
    where
      not_here : (m : ℕ) (y : End) → low ≤ m → m ≤ low → ends m ≡ Some y → ⊥
      not_here m y above more at = let same : m ≡ low = omega arith in some≢none y (sym at ∙ ap ends same ∙ here)

  some_is : (x y : End) → Some x ≡ Some y → x ≡ y
  some_is x y e = cc e

  here_first : (low n : ℕ) (z : End) → ends low ≡ Some z → ((m : ℕ) (y : End) → low < m → m < low + suc n → ends m ≡ Some y → z.0 ≤ y.0) → IsFirst low (suc n) z
  here_first low n z here later = record {
    machine = low;
    above = omega arith;
    below = omega arith;
    there = here;
    none_earlier = λ m y above below at. ⊎_elim (λ less. later m y less below at) (λ more. at_low m y above more at) (cases_lt low m);
    none_lower = λ m y above below at. absurd (omega arith);
  }
    where
      at_low : (m : ℕ) (y : End) → low ≤ m → m ≤ low → ends m ≡ Some y → z.0 ≤ y.0
      at_low m y above more at =
          let same : m ≡ low = omega arith in
          let is : z ≡ y = some_is z y (sym here ∙ sym (ap ends same) ∙ at) in
          subst (λ w. z.0 ≤ w.0) is (omega arith)

  later_first : (low n : ℕ) (z w : End) → ends low ≡ Some z → w.0 < z.0 → IsFirst (low + 1) n w → IsFirst low (suc n) w
  later_first low n z w here less first = record {
    machine = first.machine;
    above = omega (arith, first.above);
    below = omega (arith, first.below);
    there = first.there;
    none_earlier = λ m y above below at. ⊎_elim (λ past. first.none_earlier m y (omega arith) (omega arith) at) (λ more. let l = at_low m y above more at in omega (arith, l)) (cases_lt low m);
    none_lower = λ m y above below at. ⊎_elim (λ past. first.none_lower m y (omega arith) below at) (λ more. at_low m y above more at) (cases_lt low m);
  }
    where
      at_low : (m : ℕ) (y : End) → low ≤ m → m ≤ low → ends m ≡ Some y → w.0 < y.0
      at_low m y above more at =
          let same : m ≡ low = omega arith in
          let is : z ≡ y = some_is z y (sym here ∙ sym (ap ends same) ∙ at) in
          subst (λ v. w.0 < v.0) is less

  one_here : (low n : ℕ) (z : End) (o : Option End) → ends low ≡ Some z → Told (low + 1) n o → IsFirst low (suc n) (earlier z o)
  one_here low n z None here told = here_first low n z here (λ m y above below at. absurd (some≢none y (sym at ∙ told m (omega arith) (omega arith))))
  one_here low n z (Some w) here told = step (nat_lt w.0 z.0) refl
    where
      step : (b : Bool) → nat_lt w.0 z.0 ≡ b → IsFirst low (suc n) (if b then w else z)
      step true e = later_first low n z w here (grind (arith, nat_tests)) told
      step false e = here_first low n z here (λ m y above below at. let l = told.none_earlier m y (omega arith) (omega arith) at in let no : z.0 ≤ w.0 = grind (arith, nat_tests) in omega arith)

  told_on : (n low : ℕ) → Told low n (earliest_of (ends_on low n))
  told_on zero low = λ m above below. absurd (omega arith)
  told_on (suc n) low = step (told_on n (low + 1)) (ends low) refl
    where
      step : Told (low + 1) n (earliest_of (ends_on (low + 1) n)) → (o : Option End) → ends low ≡ o → Told low (suc n) (earliest_of (cons_option o (ends_on (low + 1) n)))
      step rest None e = none_here low n _ e rest
      step rest (Some z) e = one_here low n z _ e rest

from_some : (r : Result End Refusal) (x : End) → result_ok r ≡ Some x → r ≡ Ok x
from_some (Ok y) x e = cc e
from_some (Err d) x e = cc e

from_none : (r : Result End Refusal) → result_ok r ≡ None → is_ok r ≡ false
from_none (Ok y) e = cc e
from_none (Err d) e = refl

module _ (J : JobData) (N : NetData) (ρ : Ways) (S : DrawState) (t : ℕ) where
  abbrev pub ends : ℕ → Option End
  ends m = result_ok (placed J N ρ S t m)

  ends_there : (m g : ℕ) (U : DrawState) → placed J N ρ S t m ≡ Ok (g, U) → ends m ≡ Some (g, U)
  ends_there m g U e = ap result_ok e

  where_first : (f : ℕ) (after : DrawState) (o : Option End) → Told ends 0 (station_count N) o → ok_or o (EveryMachineRefuses t) ≡ Ok (f, after) → FinishesFirst J N ρ S t f after
  where_first f after None told e = cc e
  where_first f after (Some x) told e =
      let is : x ≡ (f, after) = cc e in
      let first : IsFirst ends 0 (station_count N) (f, after) = subst (IsFirst ends 0 (station_count N)) is told in
      record {
        machine = first.machine;
        known = omega (arith, first.below);
        there = from_some (placed J N ρ S t first.machine) (f, after) first.there;
        none_earlier = λ m g U within at. first.none_earlier m (g, U) (omega arith) (omega arith) (ends_there m g U at);
        none_lower = λ m g U lower at. first.none_lower m (g, U) (omega arith) lower (ends_there m g U at);
      }

  all_refuse : (e : Refusal) (o : Option End) → Told ends 0 (station_count N) o → ok_or o (EveryMachineRefuses t) ≡ Err e → (m : ℕ) → m < station_count N → is_ok (placed J N ρ S t m) ≡ false
  all_refuse e None told r m within = from_none _ (told m (omega arith) (omega arith))
  all_refuse e (Some x) told r m within = cc r

pub placed_where_first : PlacedWhereFirst
placed_where_first J N ρ S t f after e = where_first J N ρ S t f after _ (told_on (ends J N ρ S t) (station_count N) 0) e

pub refused_by_all : RefusedByAll
refused_by_all J N ρ S t e r = all_refuse J N ρ S t e _ (told_on (ends J N ρ S t) (station_count N) 0) r
