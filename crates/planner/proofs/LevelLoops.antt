-- The loops that compute bottom levels: over the edges out of a task, and over the tasks from the last to the first.
use Rattle.std.proofs.Common.{◌≡◌, ℕ, zero, suc, ◌+◌, ◌<◌, ◌≤◌, Bool, true, false, cond, ◌≢◌, List, [], ◌∷◌, EachIndex, map, max, length, length-set, get_or, get_or-set_same, get_or-set_other, set, slice_index, replicate, drop, fold, Some, ◌==◌, refl, sym, ap, subst, ◌∙◌, ⊎_elim, add-one, drop-cons, eq-eqb, arith}
use Rattle.std.proofs.lemmas.Bool.{eqb-true, cases_lt}
use Rattle.std.proofs.lemmas.List.{get_or_past}
use Rattle.std.proofs.lemmas.Option.{slice_get-get_or}
use Rattle.std.specs.List.{slice_get}
use Rattle.model.specs.Data.{JobData, task_count}
use Rattle.model.specs.JobLimits.{JobLimits}
use Rattle.model.specs.declared.job.Edge.{Edge}
use Rattle.planner.specs.Edges.{outgoing}
use Rattle.planner.specs.Levels.{greatest, levels_from, bottom_level}
use Rattle.planner.proofs.BottomLevels.{outgoing_same, bottom_level_in_words}

-- an edge of a job leads to one of its tasks
pub edge_known : (J : JobData) → JobLimits J.works J.edges → (es : List Edge) → es ≡ J.edges → (i : ℕ) (d : Edge) → i < length es → (get_or es i d).to < 128
edge_known J limits es same i d within =
    let at = slice_get-get_or es i d within in
    omega (arith, (limits.each_rises i (get_or es i d) (ap (λ us. slice_get us i) (sym same) ∙ at)).1, limits.few_tasks)

module _ (f : Edge → ℕ) (t : ℕ) where
  -- the greatest of m and what the edges past the first i give
  abbrev pub rest : List Edge → ℕ → ℕ → ℕ
  rest es i m = fold max m (map f (outgoing (drop i es) t))

  pub rest_out : (es : List Edge) (i m : ℕ) (d : Edge) → i < length es → (get_or es i d).from ≡ t → rest es i m ≡ rest es (i + 1) (max m (f (get_or es i d)))
  rest_out es i m d within out =
      let e = get_or es i d in
      let hit : (e.from == t) ≡ true = eq-eqb e.from t out in
      ap (λ us. fold max m (map f (outgoing us t))) (drop-cons es i d within)
      ∙ ap (λ b. fold max m (map f (cond b (e ∷ outgoing (drop (suc i) es) t) (outgoing (drop (suc i) es) t)))) hit
      ∙ ap (λ k. fold max (max m (f e)) (map f (outgoing (drop k es) t))) (sym (add-one i))

  pub rest_other : (es : List Edge) (i m : ℕ) (d : Edge) → i < length es → (get_or es i d).from ≢ t → rest es i m ≡ rest es (i + 1) m
  rest_other es i m d within other = step ((get_or es i d).from == t) refl
    where
      step : (b : Bool) → ((get_or es i d).from == t) ≡ b → rest es i m ≡ rest es (i + 1) m
      step true hit = absurd (other (eqb-true (get_or es i d).from t hit))
      step false miss =
          ap (λ us. fold max m (map f (outgoing us t))) (drop-cons es i d within)
          ∙ ap (λ b. fold max m (map f (cond b (get_or es i d ∷ outgoing (drop (suc i) es) t) (outgoing (drop (suc i) es) t)))) miss
          ∙ ap (λ k. fold max m (map f (outgoing (drop k es) t))) (sym (add-one i))

  -- the same of an equal list

  pub turn_out : (es us : List Edge) → us ≡ es → (i m n : ℕ) (d : Edge) → i < length us → (get_or us i d).from ≡ t → n ≡ max m (f (get_or us i d)) → rest es i m ≡ rest es (i + 1) n
  turn_out es us same i m n d within out is = subst (λ es. rest es i m ≡ rest es (i + 1) n) same (rest_out us i m d within out ∙ ap (rest us (i + 1)) (sym is))

  pub turn_other : (es us : List Edge) → us ≡ es → (i m n : ℕ) (d : Edge) → i < length us → (get_or us i d).from ≢ t → n ≡ m → rest es i m ≡ rest es (i + 1) n
  turn_other es us same i m n d within other is = subst (λ es. rest es i m ≡ rest es (i + 1) n) same (rest_other us i m d within other ∙ ap (rest us (i + 1)) (sym is))

  pub rest_none : (es : List Edge) (i m : ℕ) → length es ≤ i → rest es i m ≡ m
  rest_none [] i m past = past_all i
    where
      past_all : (i : ℕ) → rest [] i m ≡ m
      past_all zero = refl
      past_all (suc i) = refl
  rest_none (e ∷ es) zero m past = absurd (omega arith)
  rest_none (e ∷ es) (suc i) m past = rest_none es i m (omega arith)

-- the levels in the loop over the tasks

pub blank_level : (n k : ℕ) → slice_index (replicate n 0) k ≡ 0
blank_level zero k = refl
blank_level (suc n) zero = refl
blank_level (suc n) (suc k) = blank_level n k

levels_length : (es : List Edge) (t : ℕ) (works : List ℕ) → length (levels_from es t works) ≡ length works
unfolding levels_from
levels_length es t [] = refl
levels_length es t (work ∷ works) = ap suc (levels_length es (t + 1) works)

-- past the tasks every level is 0
pub level_past : (J : JobData) (k : ℕ) → task_count J ≤ k → bottom_level J k ≡ 0
level_past J k past = get_or_past (levels_from J.edges 0 J.works) k 0 (omega (arith, levels_length J.edges 0 J.works))

-- the level of task u, from those of the tasks after it
pub level_next : (J : JobData) → JobLimits J.works J.edges → (levels : List ℕ) (u work longest : ℕ) → u < task_count J → ((k : ℕ) → u < k → slice_index levels k ≡ bottom_level J k)
    → work ≡ slice_index J.works u → longest ≡ greatest (map (λ e. e.volume + slice_index levels e.to) (outgoing J.edges u)) → work + longest ≡ bottom_level J u
level_next J limits levels u work longest within later is_work is_longest =
    let read : (i : ℕ) (e : Edge) → slice_get J.edges i ≡ Some e → e.from ≡ u → e.volume + slice_index levels e.to ≡ e.volume + bottom_level J e.to = λ i e at out. ap (λ n. e.volume + n) (later e.to (omega (arith, (limits.each_rises i e at).0))) in
    let same = outgoing_same (λ e. e.volume + slice_index levels e.to) (λ e. e.volume + bottom_level J e.to) u J.edges read in
    ap (λ n. n + longest) is_work ∙ ap (λ n. slice_index J.works u + n) (is_longest ∙ ap greatest same) ∙ sym (bottom_level_in_words J limits u within)

-- the level of task u is written
pub level_written : (J : JobData) (levels : List ℕ) (u level : ℕ) → u < length levels → level ≡ bottom_level J u → ((k : ℕ) → u < k → slice_index levels k ≡ bottom_level J k) → (k : ℕ) → u ≤ k → slice_index (set levels u level) k ≡ bottom_level J k
level_written J levels u level within is later k above =
    ⊎_elim
    (λ (less : u < k). let other : k ≢ u = omega arith in rw get_or-set_other (later k less))
    (λ (more : k ≤ u). let same : k ≡ u = omega arith in subst (λ j. slice_index (set levels u level) j ≡ bottom_level J j) (sym same) (rw get_or-set_same is))
    (cases_lt u k)

-- the greatest level that is written is not above most
pub level_low : (levels : List ℕ) (u level most : ℕ) → u < length levels → level ≤ most → EachIndex levels (λ k. slice_index levels k ≤ most) → EachIndex (set levels u level) (λ k. slice_index (set levels u level) k ≤ most)
level_low levels u level most within low each k inside =
    ⊎_elim
    (λ (less : u < k). let other : k ≢ u = omega arith in rw get_or-set_other (each k (omega (arith, length-set {A = ℕ}))))
    (λ (more : k ≤ u). ⊎_elim
    (λ (below : k < u). let other : k ≢ u = omega arith in rw get_or-set_other (each k (omega (arith, length-set {A = ℕ}))))
    (λ (equal : u ≤ k). let same : k ≡ u = omega arith in subst (λ j. slice_index (set levels u level) j ≤ most) (sym same) (rw get_or-set_same low))
    (cases_lt k u))
    (cases_lt u k)
