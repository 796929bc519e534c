-- The edges into a task: each edge of the job with that goal is there, with its number, and once.
use Rattle.std.proofs.Common.{◌≡◌, ℕ, zero, suc, ◌+◌, ◌-◌, ◌≤◌, Bool, true, false, cond, ◌⊎◌, List, [], ◌∷◌, ◌++◌, filter, flat_map, Some, ◌==◌, sym, refl, ap, subst, ◌∙◌, inl, inr, ⊎_elim, arith}
use Rattle.std.specs.List.{slice_get, enumerate_from}
use Rattle.std.proofs.lemmas.Bool.{cond-true, eqb-true, eq-eqb}
use Rattle.model.specs.Data.{JobData}
use Rattle.model.specs.declared.job.Edge.{Edge}
use Rattle.planner.specs.Edges.{incoming}
use Rattle.planner.proofs.ListTests.{some_same, none≢some}

-- x is an element of the list
abbrev pub Among : {X : Type 0} → X → List X → Type 0
Among x [] = ⊥
Among x (y ∷ ys) = (y ≡ x) ⊎ Among x ys

-- no number stands twice
abbrev pub Differ : List (ℕ × Edge) → Type 0
Differ [] = Unit {0}
Differ (x ∷ es) = ((e : Edge) → Among (x.0, e) es → ⊥) × Differ es

-- lists made element by element agree where their makers do
pub flat_map_same : {X A : Type 0} (f g : X → List A) (xs : List X) → ((x : X) → Among x xs → f x ≡ g x) → flat_map f xs ≡ flat_map g xs
flat_map_same f g [] same = refl
flat_map_same f g (x ∷ xs) same = ap (λ ys. ys ++ flat_map f xs) (same x (inl refl)) ∙ ap (λ ys. g x ++ ys) (flat_map_same f g xs (λ y at. same y (inr at)))

module _ (t : ℕ) where
  -- the edges into t, numbered from n on
  abbrev into : ℕ → List Edge → List (ℕ × Edge)
  into n es = filter (λ (i, e). e.to == t) (enumerate_from n es)

  -- edge i of those numbered from n on is e, and leads into t
  record Into (n : ℕ) (es : List Edge) (i : ℕ) (e : Edge) : Type 0 where
    pub past : n ≤ i
    pub there : slice_get es (i - n) ≡ Some e
    pub goal : e.to ≡ t

  into_later : (n : ℕ) (x : Edge) (es : List Edge) (i : ℕ) (e : Edge) → Into (n + 1) es i e → Into n (x ∷ es) i e
  into_later n x es i e r =
      let next : i - n ≡ suc (i - (n + 1)) = omega (arith, r.past) in
      record { past = omega (arith, r.past); there = ap (λ k. slice_get (x ∷ es) k) next ∙ r.there; goal = r.goal }

  into_read : (n : ℕ) (es : List Edge) (i : ℕ) (e : Edge) → Among (i, e) (into n es) → Into n es i e
  into_read n [] i e at = absurd at
  into_read n (x ∷ es) i e at = step (λ later. into_later n x es i e (into_read (n + 1) es i e later)) (x.to == t) refl at
    where
      step : (Among (i, e) (into (n + 1) es) → Into n (x ∷ es) i e) → (b : Bool) → (x.to == t) ≡ b → Among (i, e) (cond b ((n, x) ∷ into (n + 1) es) (into (n + 1) es)) → Into n (x ∷ es) i e
      step rest false e_to at = rest at
      step rest true e_to at = ⊎_elim here rest at
        where
          here : ◌≡◌ {A = ℕ × Edge} (n, x) (i, e) → Into n (x ∷ es) i e
          here same =
              let number : n ≡ i = ap (λ p. p.0) same in
              let is : x ≡ e = ap (λ p. p.1) same in
              let first : i - n ≡ 0 = omega (arith, number) in
              record { past = omega (arith, number); there = ap (λ k. slice_get (x ∷ es) k) first ∙ ap Some is; goal = ap (λ y. y.to) (sym is) ∙ eqb-true x.to t e_to }

  into_pass : (n : ℕ) (es : List Edge) (i : ℕ) (e : Edge) → slice_get es i ≡ Some e → e.to ≡ t → Among (n + i, e) (into n es)
  into_pass n [] i e at goal = absurd (none≢some e at)
  into_pass n (x ∷ es) zero e at goal =
      let is : x ≡ e = some_same x e at in
      let first : n ≡ n + 0 = omega arith in
      subst (λ xs. Among (n + 0, e) xs) (sym (cond-true (x.to == t) ((n, x) ∷ into (n + 1) es) (into (n + 1) es) (eq-eqb x.to t (ap (λ y. y.to) is ∙ goal)))) (inl (λ k. (first k, is k)))
  into_pass n (x ∷ es) (suc i) e at goal =
      let next : n + 1 + i ≡ n + suc i = omega arith in
      step (subst (λ j. Among (j, e) (into (n + 1) es)) next (into_pass (n + 1) es i e at goal)) (x.to == t)
    where
      step : Among (n + suc i, e) (into (n + 1) es) → (b : Bool) → Among (n + suc i, e) (cond b ((n, x) ∷ into (n + 1) es) (into (n + 1) es))
      step later true = inr later
      step later false = later

  into_differ : (n : ℕ) (es : List Edge) → Differ (into n es)
  into_differ n [] = tt
  into_differ n (x ∷ es) = step (into_differ (n + 1) es) (x.to == t)
    where
      step : Differ (into (n + 1) es) → (b : Bool) → Differ (cond b ((n, x) ∷ into (n + 1) es) (into (n + 1) es))
      step rest true = ((λ e at. let r = (into_read (n + 1) es n e at).past in absurd (omega (arith, r))), rest)
      step rest false = rest

module _ (J : JobData) (t : ℕ) where
  pub incoming_read : (i : ℕ) (e : Edge) → Among (i, e) (incoming J t) → (slice_get J.edges i ≡ Some e) × (e.to ≡ t)
  incoming_read i e at =
      let r = into_read t 0 J.edges i e at in
      let here : i ≡ i - 0 = omega arith in
      (ap (λ k. slice_get J.edges k) here ∙ r.there, r.goal)

  pub incoming_pass : (i : ℕ) (e : Edge) → slice_get J.edges i ≡ Some e → e.to ≡ t → Among (i, e) (incoming J t)
  incoming_pass i e at goal =
      let here : 0 + i ≡ i = omega arith in
      subst (λ k. Among (k, e) (incoming J t)) here (into_pass t 0 J.edges i e at goal)

  pub incoming_differ : Differ (incoming J t)
  incoming_differ = into_differ t 0 J.edges
