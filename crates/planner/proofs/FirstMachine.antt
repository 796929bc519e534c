-- The machines are weighed one after the other: the first finish so far, and what those that are left give.
use Rattle.std.proofs.Common.{◌≡◌, ℕ, suc, ◌+◌, ◌-◌, ◌<◌, ◌≤◌, Bool, true, false, Some, None, Ok, Err, Option, Result, IfSome, MatchOption, if◌then◌else◌, ok_or, refl, sym, ap, subst, ◌∙◌, arith}
use Rattle.std.specs.Bool.{nat_lt}
use Rattle.std.specs.List.{cons_option}
use Rattle.std.specs.Option.{option_map, option_map_or}
use Rattle.std.specs.Result.{result_ok}
use Rattle.std.proofs.lemmas.Bool.Decides.{nat_tests}
use Rattle.model.specs.Data.{JobData, NetData, station_count}
use Rattle.model.specs.declared.refusal.Refusal.{Refusal}
use Rattle.model.specs.declared.refusal.Refusal.TheVariants.{EveryMachineRefuses}
use Rattle.routes.specs.Legs.{Ways}
use Rattle.planner.specs.declared.first_finish.Finish.{Finish}
use Rattle.planner.specs.Filling.{earlier, earliest_of, placed_first}
use Rattle.planner.specs.Outcomes.{DrawState}
use Rattle.planner.specs.Placing.{placed}
use Rattle.planner.proofs.FirstFinishes.{End, ends_on, ends}

-- the first of an end so far and of the first of those that are left
pub joined : Option End → Option End → Option End
joined None o = o
joined (Some x) o = Some (earlier x o)

-- of the first end so far and the next, the earlier; the former where they are equal
better : Option End → End → End
better None y = y
better (Some x) y = if nat_lt y.0 x.0 then y else x

join_step : (o r : Option End) (y : End) → joined o (Some (earlier y r)) ≡ joined (Some (better o y)) r
unfolding joined better
join_step None r y = refl
join_step (Some x) None y = refl
join_step (Some x) (Some z) y = ap Some (thirds x y z (nat_lt z.0 y.0) refl (nat_lt y.0 x.0) refl)
  where
    thirds : (x y z : End) (b : Bool) → nat_lt z.0 y.0 ≡ b → (d : Bool) → nat_lt y.0 x.0 ≡ d → (if nat_lt (if b then z else y).0 x.0 then (if b then z else y) else x) ≡ (if nat_lt z.0 (if d then y else x).0 then z else (if d then y else x))
    thirds x y z true p true q = grind (arith, nat_tests)
    thirds x y z true p false q = refl
    thirds x y z false p true q = grind (arith, nat_tests)
    thirds x y z false p false q = grind (arith, nat_tests)

-- the same where there may be no next
better_of : Option End → Option End → Option End
better_of o None = o
better_of o (Some y) = Some (better o y)

join_on : (at : ℕ → Option End) (o : Option End) (i k : ℕ) (e : Option End) → at i ≡ e → joined o (earliest_of (ends_on at i (suc k))) ≡ joined (better_of o e) (earliest_of (ends_on at (i + 1) k))
unfolding better_of
join_on at o i k None is = ap (λ e. joined o (earliest_of (cons_option e (ends_on at (i + 1) k)))) is
join_on at o i k (Some y) is = ap (λ e. joined o (earliest_of (cons_option e (ends_on at (i + 1) k)))) is ∙ join_step o (earliest_of (ends_on at (i + 1) k)) y

-- the end on the machine of a finish
pub end_of : (ℕ → Option End) → Option Finish → Option End
end_of at None = None
end_of at (Some f) = at f.machine

abbrev pub tick_of : Option End → Option ℕ
tick_of e = option_map (λ x. x.0) e

-- the finish that is kept, of that so far and the next
abbrev pub next_first : Option Finish → ℕ → Option ℕ → Option Finish
next_first first i None = first
next_first first i (Some tick) = Some (option_map_or (λ (f : Finish). if nat_lt tick f.tick then record { tick = tick; machine = i } else f) first (record { tick = tick; machine = i }))

module _ (J : JobData) (N : NetData) (ρ : Ways) (S : DrawState) (t : ℕ) where
  abbrev at : ℕ → Option End
  at = ends J N ρ S t

  -- the machines below i were weighed, and first is the first finish on them
  pub record Weighed (i : ℕ) (first : Option Finish) : Type 0 where
    pub tick : IfSome first (λ f. tick_of (ends J N ρ S t f.machine) ≡ Some f.tick)
    pub rest : joined (end_of (ends J N ρ S t) first) (earliest_of (ends_on (ends J N ρ S t) i (station_count N - i))) ≡ earliest_of (ends_on (ends J N ρ S t) 0 (station_count N))

  pub weighed_begin : Weighed 0 None
  unfolding joined end_of
  weighed_begin = let all : station_count N - 0 ≡ station_count N = omega arith in record { tick = tt; rest = ap (λ n. earliest_of (ends_on at 0 n)) all }

  kept_tick : (first : Option Finish) (i : ℕ) (tick : Option ℕ) → tick ≡ tick_of (at i) → IfSome first (λ f. tick_of (at f.machine) ≡ Some f.tick) → IfSome (next_first first i tick) (λ f. tick_of (at f.machine) ≡ Some f.tick)
  kept_tick first i None is known = known
  kept_tick None i (Some tick) is known = sym is
  kept_tick (Some f) i (Some tick) is known = go (nat_lt tick f.tick)
    where
      go : (b : Bool) → tick_of (at (if b then record { tick = tick; machine = i } else f).machine) ≡ Some (if b then record { tick = tick; machine = i } else f).tick
      go true = sym is
      go false = known

  kept_end : (first : Option Finish) (i : ℕ) (tick : Option ℕ) (e : Option End) → at i ≡ e → tick ≡ tick_of e → IfSome first (λ f. tick_of (at f.machine) ≡ Some f.tick) → end_of at (next_first first i tick) ≡ better_of (end_of at first) e
  unfolding end_of better_of better
  kept_end first i None None here is known = refl
  kept_end first i None (Some y) here is known = cc is
  kept_end first i (Some tick) None here is known = cc is
  kept_end None i (Some tick) (Some y) here is known = here
  kept_end (Some f) i (Some tick) (Some y) here is known = go (at f.machine) refl
    where
      go : (o : Option End) → at f.machine ≡ o → at (if nat_lt tick f.tick then record { tick = tick; machine = i } else f).machine ≡ better_of o (Some y)
      go None there = let none : None ≡ Some f.tick = ap tick_of (sym there) ∙ known in cc
      go (Some x) there =
          let same : tick ≡ y.0 = cc is in
          let other : f.tick ≡ x.0 = (let both : Some x.0 ≡ Some f.tick = ap tick_of (sym there) ∙ known in cc) in
          pick (nat_lt tick f.tick) (nat_lt y.0 x.0) (ap (λ n. nat_lt n f.tick) same ∙ ap (λ n. nat_lt y.0 n) other)
        where
          pick : (b d : Bool) → b ≡ d → at (if b then record { tick = tick; machine = i } else f).machine ≡ Some (if d then y else x)
          pick true true is = here
          pick false false is = there
          pick true false is = cc is
          pick false true is = cc is

  pub weighed_next : (i : ℕ) (first next : Option Finish) (tick : Option ℕ) → i < station_count N → Weighed i first → tick ≡ tick_of (at i) → next ≡ next_first first i tick → Weighed (i + 1) next
  weighed_next i first next tick within w is is_next = subst (Weighed (i + 1)) (sym is_next) (record {
    tick = kept_tick first i tick is w.tick;
    rest =
        let less : station_count N - i ≡ suc (station_count N - (i + 1)) = omega arith in
        ap (λ o. joined o (earliest_of (ends_on at (i + 1) (station_count N - (i + 1))))) (kept_end first i tick (at i) refl is w.tick)
        ∙ sym (join_on at (end_of at first) i (station_count N - (i + 1)) (at i) refl)
        ∙ ap (λ n. joined (end_of at first) (earliest_of (ends_on at i n))) (sym less)
        ∙ w.rest;
  })

  -- all machines were weighed
  weighed_all : (i : ℕ) (first : Option Finish) → station_count N ≤ i → Weighed i first → end_of at first ≡ earliest_of (ends_on at 0 (station_count N))
  unfolding joined
  weighed_all i first all w =
      let none : station_count N - i ≡ 0 = omega arith in
      sym (join_none (end_of at first)) ∙ ap (λ n. joined (end_of at first) (earliest_of (ends_on at i n))) (sym none) ∙ w.rest
    where
      join_none : (o : Option End) → joined o None ≡ o
      join_none None = refl
      join_none (Some x) = refl

  end_there : (m f : ℕ) (o : Option End) → at m ≡ o → tick_of (at m) ≡ Some f → (x : End) × (placed J N ρ S t m ≡ Ok x)
  end_there m f None there is = let none : None ≡ Some f = ap tick_of (sym there) ∙ is in cc
  end_there m f (Some x) there is = (x, of_ok (placed J N ρ S t m) there)
    where
      of_ok : (r : Result End Refusal) → result_ok r ≡ Some x → r ≡ Ok x
      of_ok (Ok y) e = cc e
      of_ok (Err d) e = cc e

  pub weighed_end : (i : ℕ) (first : Option Finish) (machine : Option ℕ) → station_count N ≤ i → Weighed i first → machine ≡ option_map (λ (f : Finish). f.machine) first
      → MatchOption machine (placed_first J N ρ S t ≡ Err (EveryMachineRefuses t)) (λ m. placed_first J N ρ S t ≡ placed J N ρ S t m)
  unfolding end_of
  weighed_end i None machine all w is =
      subst (λ o. MatchOption o (placed_first J N ρ S t ≡ Err (EveryMachineRefuses t)) (λ m. placed_first J N ρ S t ≡ placed J N ρ S t m)) (sym is)
      (ap (λ o. ok_or o (EveryMachineRefuses t)) (sym (weighed_all i None all w)))
  weighed_end i (Some f) machine all w is =
      let there = end_there f.machine f.tick (at f.machine) refl w.tick in
      subst (λ o. MatchOption o (placed_first J N ρ S t ≡ Err (EveryMachineRefuses t)) (λ m. placed_first J N ρ S t ≡ placed J N ρ S t m)) (sym is)
      (ap (λ o. ok_or o (EveryMachineRefuses t)) (sym (weighed_all i (Some f) all w))
      ∙ ap (λ (r : Result End Refusal). ok_or (result_ok r) (EveryMachineRefuses t)) there.1
      ∙ sym there.1)
