-- A bottom level is the work plus the greatest of volume plus bottom level over the outgoing edges.
use Rattle.std.proofs.Common.{◌≡◌, ℕ, zero, suc, ◌+◌, ◌-◌, ◌<◌, Bool, true, false, cond, List, [], ◌∷◌, map, length, drop, Some, ◌==◌, refl, sym, ap, subst, ◌∙◌, arith}
use Rattle.std.specs.List.{slice_get, slice_index}
use Rattle.std.proofs.lemmas.Bool.{eqb-true}
use Rattle.model.specs.declared.job.Edge.{Edge}
use Rattle.planner.specs.Edges.{outgoing}
use Rattle.planner.specs.FillLaws.{BottomLevelInWords}
use Rattle.planner.specs.Levels.{greatest, level_before, levels_from, bottom_level}

-- the levels of the tasks after the first j are those of the works after the first j
levels_past : (es : List Edge) (works : List ℕ) (t j k : ℕ) → slice_index (levels_from es t works) (j + k) ≡ slice_index (levels_from es (t + j) (drop j works)) k
unfolding levels_from
levels_past es works t zero k =
    let here : 0 + k ≡ k = omega arith in
    let there : t + 0 ≡ t = omega arith in
    rw (here, there) refl
levels_past es [] t (suc j) k = refl
levels_past es (work ∷ works) t (suc j) k =
    let next : suc j + k ≡ suc (j + k) = omega arith in
    let from : t + suc j ≡ t + 1 + j = omega arith in
    rw (next, from) (levels_past es works (t + 1) j k)

-- the level at place k comes from those after it
level_at : (es : List Edge) (works : List ℕ) (t k : ℕ) → k < length works → slice_index (levels_from es t works) k ≡ level_before (levels_from es (t + k + 1) (drop (suc k) works)) es (t + k) (slice_index works k)
unfolding levels_from
level_at es [] t k within = absurd (omega arith)
level_at es (work ∷ works) t zero within =
    let there : t + 0 ≡ t = omega arith in
    rw there refl
level_at es (work ∷ works) t (suc k) within =
    let from : t + suc k ≡ t + 1 + k = omega arith in
    rw from (level_at es works (t + 1) k (omega arith))

module _ (f g : Edge → ℕ) (t : ℕ) where
  pub outgoing_same : (es : List Edge) → ((i : ℕ) (e : Edge) → slice_get es i ≡ Some e → e.from ≡ t → f e ≡ g e) → map f (outgoing es t) ≡ map g (outgoing es t)
  outgoing_same [] same = refl
  outgoing_same (x ∷ es) same = step (outgoing_same es (λ i e. same (suc i) e)) (x.from == t) refl
    where
      step : map f (outgoing es t) ≡ map g (outgoing es t) → (b : Bool) → (x.from == t) ≡ b → map f (cond b (x ∷ outgoing es t) (outgoing es t)) ≡ map g (cond b (x ∷ outgoing es t) (outgoing es t))
      step rest true at_t = ap (λ n. n ∷ map f (outgoing es t)) (same 0 x refl (eqb-true _ _ at_t)) ∙ ap (λ ns. g x ∷ ns) rest
      step rest false elsewhere = rest

pub bottom_level_in_words : BottomLevelInWords
bottom_level_in_words J limits t within =
    let later : List ℕ = levels_from J.edges (0 + t + 1) (drop (suc t) J.works) in
    let read : (i : ℕ) (e : Edge) → slice_get J.edges i ≡ Some e → e.from ≡ t → e.volume + slice_index later (e.to - (0 + t + 1)) ≡ e.volume + bottom_level J e.to = λ i e at out. ap (λ n. e.volume + n) (past e (omega (arith, (limits.each_rises i e at).0, out))) in
    let all = outgoing_same (λ e. e.volume + slice_index later (e.to - (0 + t + 1))) (λ e. e.volume + bottom_level J e.to) t J.edges read in
    let zero_t : 0 + t ≡ t = omega arith in
    level_at J.edges J.works 0 t within ∙ ap (λ u. slice_index J.works t + greatest (map (λ e. e.volume + slice_index later (e.to - (u + 1))) (outgoing J.edges u))) zero_t ∙ subst (λ u. slice_index J.works t + greatest (map (λ e. e.volume + slice_index later (e.to - (u + 1))) (outgoing J.edges t)) ≡ slice_index J.works t + greatest (map (λ e. e.volume + bottom_level J e.to) (outgoing J.edges t))) zero_t (ap (λ ns. slice_index J.works t + greatest ns) all)
  where
    past : (e : Edge) → t < e.to → slice_index (levels_from J.edges (0 + t + 1) (drop (suc t) J.works)) (e.to - (0 + t + 1)) ≡ bottom_level J e.to
    past e rises =
        let from : 0 + t + 1 ≡ 0 + suc t = omega arith in
        let to : suc t + (e.to - (0 + suc t)) ≡ e.to = omega arith in
        rw from (sym (levels_past J.edges J.works 0 (suc t) (e.to - (0 + suc t))) ∙ ap (λ k. slice_index (levels_from J.edges 0 J.works) k) to)
