-- The bookings that a task takes on a machine, counted edge by edge.
use Rattle.std.proofs.Common.{◌≡◌, ◌≢◌, ℕ, ◌+◌, ◌*◌, ◌<◌, ◌≤◌, cond, List, [], ◌∷◌, length, find, get_or, is_none, Some, None, Ok, Err, Option, option_map, Result, refl, sym, ap, subst, ◌∙◌, arith}
use Rattle.std.specs.Option.{option_map_or}
use Rattle.std.proofs.lemmas.List.Sums.{sum_by-cons}
use Rattle.model.specs.Data.{JobData}
use Rattle.model.specs.Plans.{PlanData}
use Rattle.model.specs.declared.job.Edge.{Edge}
use Rattle.model.specs.declared.refusal.Refusal.{Refusal}
use Rattle.model.specs.declared.refusal.Refusal.TheVariants.{NoRoute}
use Rattle.routes.specs.Hops.{hops_of}
use Rattle.routes.specs.Legs.{Ways}
use Rattle.routes.specs.declared.hop.Hop.{Hop}
use Rattle.planner.specs.Booked.{needed}
use Rattle.planner.specs.Edges.{way_to}
use Rattle.planner.proofs.EdgesIn.{no_edge, hops_needed}
use Rattle.planner.proofs.Incoming.{into_from, into_here, into_skip, into_end}

module _ (ρ : Ways) (P : PlanData) (m : ℕ) where
  -- n bookings and those of the edges, unless one of these has no way
  abbrev pub counted : ℕ → List (ℕ × Edge) → Result ℕ Refusal
  counted n es = option_map_or (λ i. Err (NoRoute i)) (option_map (λ (i, e). i) (find (λ (i, e). is_none (way_to ρ P m e)) es)) (Ok (hops_needed ρ P m es + n))

  counted_end : (n : ℕ) → counted n [] ≡ Ok n
  counted_end n = let same : 0 + n ≡ n = omega arith in ap Ok same

  counted_none : (n i : ℕ) (e : Edge) (es : List (ℕ × Edge)) → way_to ρ P m e ≡ None → counted n ((i, e) ∷ es) ≡ Err (NoRoute i)
  counted_none n i e es none =
      ap (λ b. option_map_or (λ k. Err (NoRoute k)) (option_map (λ (k, d). k) (cond b (Some (i, e)) (find (λ (k, d). is_none (way_to ρ P m d)) es))) (Ok (hops_needed ρ P m ((i, e) ∷ es) + n))) (ap is_none none)

  counted_some : (n i : ℕ) (e : Edge) (es : List (ℕ × Edge)) (hops : List Hop) → way_to ρ P m e ≡ Some hops → counted n ((i, e) ∷ es) ≡ counted (n + length hops) es
  counted_some n i e es hops some =
      let more = sum_by-cons (λ (i, e). length (hops_of (way_to ρ P m e))) (i, e) es in
      let here = ap (λ w. length (hops_of w)) some in
      let same : hops_needed ρ P m ((i, e) ∷ es) + n ≡ hops_needed ρ P m es + (n + length hops) = omega (arith, more, here) in
      ap (λ b. option_map_or (λ k. Err (NoRoute k)) (option_map (λ (k, d). k) (cond b (Some (i, e)) (find (λ (k, d). is_none (way_to ρ P m d)) es))) (Ok (hops_needed ρ P m ((i, e) ∷ es) + n))) (ap is_none some)
      ∙ ap (λ k. option_map_or (λ k. Err (NoRoute k)) (option_map (λ (k, d). k) (find (λ (k, d). is_none (way_to ρ P m d)) es)) (Ok k)) same

module _ (J : JobData) (ρ : Ways) (P : PlanData) (t m : ℕ) where
  -- where the count stands after the edges below i
  pub record Counting (i n : ℕ) : Type 0 where
    pub same : counted ρ P m n (into_from J.edges t i) ≡ needed J ρ P t m
    pub few : n ≤ 15 * i + 1

  pub counting_begins : Counting 0 1
  counting_begins = record { same = refl; few = omega arith }

  -- the same at what the code holds
  pub counting_at : (i n k : ℕ) → k ≡ n → Counting i n → Counting i k
  counting_at i n k same u = subst (Counting i) (sym same) u

  module _ (i n : ℕ) (u : Counting i n) where
    pub ended : length J.edges ≤ i → Ok n ≡ needed J ρ P t m
    ended past = sym (counted_end ρ P m n) ∙ ap (counted ρ P m n) (sym (into_end J.edges t i past)) ∙ u.same

    module _ (e : Edge) (within : i < length J.edges) (at : get_or J.edges i no_edge ≡ e) where
      pub passes : (e.to ≢ t) → Counting (i + 1) n
      passes other = record {
        same = ap (counted ρ P m n) (sym (into_skip J.edges t i no_edge within (λ same. other (ap (λ x. x.to) (sym at) ∙ same)))) ∙ u.same;
        few = omega (arith, u.few);
      }

      module _ (into : e.to ≡ t) where
        opened : counted ρ P m n ((i, e) ∷ into_from J.edges t (i + 1)) ≡ needed J ρ P t m
        opened =
            ap (counted ρ P m n) (sym (into_here J.edges t i no_edge within (ap (λ x. x.to) at ∙ into) ∙ ap (λ x. (i, x) ∷ into_from J.edges t (i + 1)) at))
            ∙ u.same

        none_of : (w : Option (List Hop)) → None ≡ option_map length w → w ≡ None
        none_of None is = refl
        none_of (Some hops) is = cc is

        some_of : (w : Option (List Hop)) (k : ℕ) → Some k ≡ option_map length w → (hops : List Hop) × (w ≡ Some hops) × (length hops ≡ k)
        some_of None k is = cc is
        some_of (Some hops) k is = (hops, refl, cc is)

        pub lowest : None ≡ option_map length (way_to ρ P m e) → Err (NoRoute i) ≡ needed J ρ P t m
        lowest none = sym (counted_none ρ P m n i e (into_from J.edges t (i + 1)) (none_of _ none)) ∙ opened

        pub counts_on : (k : ℕ) → Some k ≡ option_map length (way_to ρ P m e) → k ≤ 15 → Counting (i + 1) (n + k)
        counts_on k some short =
            let way = some_of _ k some in
            record {
              same = ap (λ j. counted ρ P m (n + j) (into_from J.edges t (i + 1))) (sym way.2) ∙ sym (counted_some ρ P m n i e (into_from J.edges t (i + 1)) way.0 way.1) ∙ opened;
              few = omega (arith, u.few, short);
            }
