-- The edges into a task, from a place of the job's edges on.
use Rattle.std.proofs.Common.{◌≡◌, ◌≢◌, ℕ, zero, suc, ◌+◌, ◌<◌, ◌≤◌, Bool, true, cond, List, [], ◌∷◌, filter, length, drop, set, get_or, fold, ◌==◌, if◌then◌else◌, Some, nat_lt, lt-ltb, refl, sym, ap, ◌∙◌, eq-eqb, ne_eqb, add-one}
use Rattle.std.specs.List.{enumerate_from, slice_get}
use Rattle.std.proofs.lemmas.Bool.{cond-true, cond-false}
use Rattle.std.proofs.lemmas.List.{drop_all, set-set}
use Rattle.std.proofs.Math.Seq.{drop-cons}
use Rattle.model.specs.Plans.{PlanData, with_starts}
use Rattle.model.specs.declared.job.Edge.{Edge}

abbrev pub into_from : List Edge → ℕ → ℕ → List (ℕ × Edge)
into_from es t i = filter (λ (j, e). e.to == t) (enumerate_from i (drop i es))

module _ (es : List Edge) (t i : ℕ) (d : Edge) (within : i < length es) where
  numbered : enumerate_from i (drop i es) ≡ (i, get_or es i d) ∷ enumerate_from (i + 1) (drop (i + 1) es)
  numbered = ap (enumerate_from i) (drop-cons es i d within) ∙ ap (λ n. (i, get_or es i d) ∷ enumerate_from (i + 1) (drop n es)) (sym (add-one i))

  turn : into_from es t i ≡ cond ((get_or es i d).to == t) ((i, get_or es i d) ∷ into_from es t (i + 1)) (into_from es t (i + 1))
  turn = ap (filter (λ (j, e). e.to == t)) numbered

  pub into_here : (get_or es i d).to ≡ t → into_from es t i ≡ (i, get_or es i d) ∷ into_from es t (i + 1)
  into_here here = turn ∙ cond-true _ _ _ (eq-eqb _ _ here)

  pub into_skip : ((get_or es i d).to ≢ t) → into_from es t i ≡ into_from es t (i + 1)
  into_skip elsewhere = turn ∙ cond-false _ _ _ (ne_eqb _ _ elsewhere)

pub into_end : (es : List Edge) (t i : ℕ) → length es ≤ i → into_from es t i ≡ []
into_end es t i past = ap (λ l. filter (λ (j, e). e.to == t) (enumerate_from i l)) (drop_all i es past)

-- emptied rows

abbrev pub emptied : PlanData → List (ℕ × Edge) → PlanData
emptied P es = fold (λ Q (i, e). with_starts Q i []) P es

-- a row that is in its table is written
pub row_written : (P Q : PlanData) (i : ℕ) (ss rs : List ℕ) (ok : Bool) → Q ≡ (if ok then with_starts P i rs else P) → ok ≡ nat_lt i 224 → i < 224 → rs ≡ ss → Q ≡ with_starts P i ss
row_written P Q i ss rs ok e fits within same =
    let yes : ok ≡ true = fits ∙ lt-ltb i 224 within in
    e ∙ cond-true ok _ _ yes ∙ ap (with_starts P i) same

set_twice_other : {A : Type 0} (xs : List A) (i j : ℕ) (a : A) → set (set xs i a) j a ≡ set (set xs j a) i a
set_twice_other [] i j a = refl
set_twice_other (x ∷ xs) zero zero a = refl
set_twice_other (x ∷ xs) zero (suc j) a = refl
set_twice_other (x ∷ xs) (suc i) zero a = refl
set_twice_other (x ∷ xs) (suc i) (suc j) a = ap (λ l. x ∷ l) (set_twice_other xs i j a)

emptied_other : (P : PlanData) (i j : ℕ) → with_starts (with_starts P i []) j [] ≡ with_starts (with_starts P j []) i []
emptied_other P i j = ap (λ rows. record P { transfers = rows }) (set_twice_other P.transfers i j [])

emptied_twice : (P : PlanData) (i : ℕ) → with_starts (with_starts P i []) i [] ≡ with_starts P i []
emptied_twice P i = ap (λ rows. record P { transfers = rows }) (set-set P.transfers i [] [])

-- a row that is emptied anyway can be emptied first
pub emptied_first : (es : List (ℕ × Edge)) (P : PlanData) (k : ℕ) (x : ℕ × Edge) → slice_get es k ≡ Some x → emptied P es ≡ emptied (with_starts P x.0 []) es
emptied_first [] P k x at = cc at
emptied_first (y ∷ es) P zero x at =
    let same : y ≡ x = cc at in
    ap (λ Q. emptied Q es) (sym (emptied_twice P y.0)) ∙ ap (λ z. emptied (with_starts (with_starts P z.0 []) y.0 []) es) same
emptied_first (y ∷ es) P (suc k) x at =
    emptied_first es (with_starts P y.0 []) k x at ∙ ap (λ Q. emptied Q es) (emptied_other P y.0 x.0)

-- a row that was written is emptied as it would have been before
pub rewritten : (P Q : PlanData) (i : ℕ) (ss : List ℕ) → Q ≡ with_starts P i ss → with_starts Q i [] ≡ with_starts P i []
rewritten P Q i ss e = ap (λ X. with_starts X i []) e ∙ ap (λ rows. record P { transfers = rows }) (set-set P.transfers i ss [])
