-- The search names the first fault.
use Rattle.std.proofs.Common.{◌≡◌, ℕ, zero, suc, ◌<◌, Bool, true, false, cond, List, [], ◌∷◌, Some, None, Option, unwrap_or, sym, refl, ap, ◌∙◌, subst, ⊎_elim, arith}
use mathlib.Core.Path.{subst₃}
use Rattle.std.proofs.lemmas.Option.{cond_some}
use Rattle.std.specs.List.{slice_get}
use Rattle.model.specs.Data.{JobData, NetData}
use Rattle.model.specs.Lowest.{lowest}
use Rattle.model.specs.Plans.{PlanData}
use Rattle.model.specs.Refusals.{or_else}
use Rattle.model.proofs.Firsts.{some≢none, or_none}
use Rattle.model.proofs.Lowests.{or_some, lowest_none, lowest_some}
use Rattle.routes.specs.Legs.{Ways}
use Rattle.marker.specs.Faults.{Fault, NoFault}
use Rattle.marker.specs.Verdicts.{test, firsts, seconds, spot, search_rule, search_rules, order, place, found, verdict, Lower, FirstFault, NamesTheFirst}
use Rattle.marker.specs.declared.verdict.Verdict.{Verdict}
use Rattle.marker.specs.declared.verdict.Verdict.TheVariants.{Lawful, Broken}
use Rattle.marker.specs.declared.verdict.Rule.{Rule}
use Rattle.marker.specs.declared.verdict.Rule.TheVariants.{Rows, Predecessors, Routed, WithinLimit, Departure, Causality, Arrival, Machines, Links}
use Rattle.marker.proofs.FirstAnswers.{first_answer}
use Rattle.marker.proofs.Fits.{fits}

lawful≢broken : {r : Rule} {x y : ℕ} → Lawful ≡ Broken r x y → ⊥
lawful≢broken e = let z : ◌≡◌ {A = ℕ} 0 1 = cc in omega arith

untold : {A : Type 0} (b : Bool) (w : A) → cond b (Some w) None ≡ None → b ≡ true → ⊥
untold true w e h = some≢none e
untold false w e h = let z : ◌≡◌ {A = ℕ} 0 1 = cc in omega arith

pub found_is : (o : Option Verdict) → unwrap_or o Lawful ≡ found o
found_is None = refl
found_is (Some v) = refl

-- each rule stands at its place
listed : (r : Rule) → slice_get order (place r) ≡ Some r
listed Rows = refl
listed Predecessors = refl
listed Routed = refl
listed WithinLimit = refl
listed Departure = refl
listed Causality = refl
listed Arrival = refl
listed Machines = refl
listed Links = refl

abbrev place_of : Option Rule → ℕ
place_of (Some r) = place r
place_of None = 9

place_at : (i : ℕ) (r : Rule) → slice_get order i ≡ Some r → i ≡ place r
place_at zero r e = ap place_of e
place_at (suc zero) r e = ap place_of e
place_at (suc (suc zero)) r e = ap place_of e
place_at (suc (suc (suc zero))) r e = ap place_of e
place_at (suc (suc (suc (suc zero)))) r e = ap place_of e
place_at (suc (suc (suc (suc (suc zero))))) r e = ap place_of e
place_at (suc (suc (suc (suc (suc (suc zero)))))) r e = ap place_of e
place_at (suc (suc (suc (suc (suc (suc (suc zero))))))) r e = ap place_of e
place_at (suc (suc (suc (suc (suc (suc (suc (suc zero)))))))) r e = ap place_of e
place_at (suc (suc (suc (suc (suc (suc (suc (suc (suc i))))))))) r e = absurd (some≢none (sym e))

module _ (J : JobData) (N : NetData) (ρ : Ways) (P : PlanData) where
  -- no answer at x means no fault at x, and no answer at x y none at x y
  spot_none : (r : Rule) (x y : ℕ) → spot J N ρ P r x y ≡ None → Fault J N ρ P r x y → ⊥
  spot_none r x y e F = untold (test J N ρ P r x y) (Broken r x y) e ((fits J N ρ P r).complete x y F)

  row_none : (r : Rule) (x : ℕ) → lowest (spot J N ρ P r x) (seconds J N ρ P r x) ≡ None → (y : ℕ) → Fault J N ρ P r x y → ⊥
  row_none r x e y F = spot_none r x y (lowest_none (spot J N ρ P r x) (seconds J N ρ P r x) e y ((fits J N ρ P r).below x y F).1) F

  rule_none : (r : Rule) → search_rule J N ρ P r ≡ None → (x y : ℕ) → Fault J N ρ P r x y → ⊥
  unfolding search_rule
  rule_none r e x y F = row_none r x (lowest_none (λ u. lowest (spot J N ρ P r u) (seconds J N ρ P r u)) (firsts J N ρ P r) e x ((fits J N ρ P r).below x y F).0) y F

  abbrev At : Rule → Verdict → Type 0
  At r v = (x : ℕ) × (y : ℕ) × (Broken r x y ≡ v) × Fault J N ρ P r x y × ((u w : ℕ) → Lower u w x y → Fault J N ρ P r u w → ⊥)

  rule_some : (r : Rule) (v : Verdict) → search_rule J N ρ P r ≡ Some v → At r v
  unfolding search_rule
  rule_some r v e =
      let a = lowest_some (λ u. lowest (spot J N ρ P r u) (seconds J N ρ P r u)) (firsts J N ρ P r) v e in
      let x = a.0 in
      let b = lowest_some (spot J N ρ P r x) (seconds J N ρ P r x) v a.2 in
      let y = b.0 in
      let h = cond_some (test J N ρ P r x y) (Broken r x y) v b.2 in (
        x,
        y,
        h.1,
        (fits J N ρ P r).sound x y b.1 h.0,
        λ u w low F.
            ⊎_elim (λ l. row_none r u (a.3 u l) w F)
            (λ l. spot_none r x w (b.3 w l.1) (subst (λ n. Fault J N ρ P r n w) l.0 F))
            low,
      )

  rules_none : (rs : List Rule) → search_rules J N ρ P rs ≡ None → (i : ℕ) (r : Rule) → slice_get rs i ≡ Some r → search_rule J N ρ P r ≡ None
  unfolding search_rules
  rules_none [] e i r h = absurd (some≢none (sym h))
  rules_none (s ∷ rs) e zero r h = let same : r ≡ s = cc in ap (search_rule J N ρ P) same ∙ (or_none _ _ e).0
  rules_none (s ∷ rs) e (suc i) r h = rules_none rs (or_none (search_rule J N ρ P s) _ e).1 i r h

  -- the search is for the first answer in the list
  pub first_rules : (rs : List Rule) → first_answer (search_rule J N ρ P) rs ≡ search_rules J N ρ P rs
  unfolding search_rules
  first_rules [] = refl
  first_rules (r ∷ rs) = ap (or_else (search_rule J N ρ P r)) (first_rules rs)

  abbrev By : List Rule → Verdict → Type 0
  By rs v = (i : ℕ) × (r : Rule) × (slice_get rs i ≡ Some r) × (search_rule J N ρ P r ≡ Some v) × ((j : ℕ) (s : Rule) → j < i → slice_get rs j ≡ Some s → search_rule J N ρ P s ≡ None)

  later : (s : Rule) (rs : List Rule) (v : Verdict) → search_rule J N ρ P s ≡ None → By rs v → By (s ∷ rs) v
  later s rs v e b = (suc b.0, b.1, b.2, b.3, before)
    where
      before : (j : ℕ) (t : Rule) → j < suc b.0 → slice_get (s ∷ rs) j ≡ Some t → search_rule J N ρ P t ≡ None
      before zero t l h = let same : t ≡ s = cc in ap (search_rule J N ρ P) same ∙ e
      before (suc j) t l h = b.4 j t (omega arith) h

  rules_some : (rs : List Rule) (v : Verdict) → search_rules J N ρ P rs ≡ Some v → By rs v
  unfolding search_rules
  rules_some [] v e = absurd (some≢none (sym e))
  rules_some (s ∷ rs) v e =
      ⊎_elim (λ h. (0, s, refl, h, λ j t l _. absurd (omega arith)))
      (λ h. later s rs v h.0 (rules_some rs v h.1))
      (or_some (search_rule J N ρ P s) _ v e)

  -- a rule whose search finds this verdict, with all earlier searches empty, is the first that is broken
  named : (v : Verdict) → By order v → (r : Rule) (x y : ℕ) → v ≡ Broken r x y → FirstFault J N ρ P r x y
  named v b r x y e =
      let h = rule_some b.1 v b.3 in
      let same : b.1 ≡ r = cc (h.2, e) in
      let same_x : h.0 ≡ x = cc (h.2, e) in
      let same_y : h.1 ≡ y = cc (h.2, e) in
      let at : FirstFault J N ρ P b.1 h.0 h.1 = record {
        fault = h.3;
        earlier_hold = λ s u w l. rule_none s (b.4 (place s) s (omega (arith, place_at b.0 b.1 b.2)) (listed s)) u w;
        none_lower = h.4;
      } in
      subst₃ (FirstFault J N ρ P) same same_x same_y at

  lawful_from : (o : Option Verdict) → search_rules J N ρ P order ≡ o → found o ≡ Lawful → NoFault J N ρ P
  lawful_from None e h r x y F = rule_none r (rules_none order e (place r) r (listed r)) x y F
  lawful_from (Some v) e h r x y F =
      let b = rules_some order v e in
      let a = rule_some b.1 v b.3 in
      absurd (lawful≢broken (sym h ∙ sym a.2))

  lawful_to : (o : Option Verdict) → search_rules J N ρ P order ≡ o → NoFault J N ρ P → found o ≡ Lawful
  lawful_to None e h = refl
  lawful_to (Some v) e h =
      let b = rules_some order v e in
      let a = rule_some b.1 v b.3 in
      absurd (h b.1 a.0 a.1 a.3)

  broken_at : (o : Option Verdict) → search_rules J N ρ P order ≡ o → (r : Rule) (x y : ℕ) → found o ≡ Broken r x y → FirstFault J N ρ P r x y
  broken_at None e r x y h = absurd (lawful≢broken h)
  broken_at (Some v) e r x y h = named v (rules_some order v e) r x y h

pub names_the_first : NamesTheFirst
unfolding verdict
names_the_first J N ρ P = record {
  lawful_exactly = (lawful_from J N ρ P (search_rules J N ρ P order) refl, lawful_to J N ρ P (search_rules J N ρ P order) refl);
  broken_first = broken_at J N ρ P (search_rules J N ρ P order) refl;
}
