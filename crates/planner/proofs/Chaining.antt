-- Chains of the edges into each task are made from the last edge to the first, and lead through all edges into a task.
use Rattle.std.proofs.Common.{◌≡◌, ℕ, zero, suc, ◌+◌, ◌-◌, ◌<◌, ◌≤◌, Bool, true, false, List, [], length, get_or, set, drop, filter, replicate, Some, None, Option, ◌==◌, cond, refl, sym, ap, subst, ◌∙◌, ⊎_elim, arith}
use Rattle.std.specs.List.{slice_get, enumerate_from}
use Rattle.std.proofs.Math.ListN.{drop_of_length-le}
use Rattle.std.proofs.lemmas.Bool.{cases_eq, cond-true, cond-false, eqb-true, eq-eqb, ne_eqb}
use Rattle.std.proofs.lemmas.List.{drop_more, length-set, get_or-set_same, get_or-set_other}
use Rattle.std.proofs.lemmas.Option.{slice_get-get_or, slice_get_within, get_or_from_slice_get}
use Rattle.model.specs.JobLimits.{JobLimits}
use Rattle.model.specs.declared.job.Edge.{Edge}
use Rattle.planner.specs.EdgeChains.{edge_into, Chained}

abbrev pub no_edge : Edge
no_edge = record { from = 0; to = 0; volume = 0 }

-- each goal is one of the tasks
pub goal_known : (works : List ℕ) (edges es : List Edge) (i : ℕ) → JobLimits works edges → es ≡ edges → i < length es → (get_or es i no_edge).to < 128
goal_known works edges es i limits same inside =
    let at : slice_get edges i ≡ Some (get_or es i no_edge) = ap (λ xs. slice_get xs i) (sym same) ∙ slice_get-get_or es i no_edge inside in
    let rising = limits.each_rises i (get_or es i no_edge) at in
    omega (arith, rising.1, limits.few_tasks)

-- one edge more at the front
into_more : (es : List Edge) (t i : ℕ) → i < length es → edge_into t i (drop i es) ≡ cond ((get_or es i no_edge).to == t) (Some i) (edge_into t (i + 1) (drop (i + 1) es))
into_more es t i l = ap (edge_into t i) (drop_more es i no_edge l)

-- the chains of the edges from i on

pub record ChainedFrom (edges : List Edge) (firsts nexts : List (Option ℕ)) (i : ℕ) : Type 0 where
  pub first_rows : length firsts ≡ 128
  pub next_rows : length nexts ≡ 224
  pub within : i ≤ length edges
  pub first : (t : ℕ) → get_or firsts t None ≡ edge_into t i (drop i edges)
  pub next : (j : ℕ) (e : Edge) → i ≤ j → slice_get edges j ≡ Some e → get_or nexts j None ≡ edge_into e.to (j + 1) (drop (j + 1) edges)

none_at : (n t : ℕ) → get_or (replicate {A = Option ℕ} n None) t None ≡ None
none_at zero t = refl
none_at (suc n) zero = refl
none_at (suc n) (suc t) = none_at n t

pub none_chained : (edges : List Edge) (i : ℕ) → i ≡ length edges → ChainedFrom edges (replicate 128 None) (replicate 224 None) i
none_chained edges i e = record {
  first_rows = refl;
  next_rows = refl;
  within = omega arith;
  first = λ t. none_at 128 t ∙ sym (ap (edge_into t i) (drop_of_length-le edges (omega arith)));
  next = λ j edge past at. let inside = slice_get_within edges j edge at in absurd (omega (arith, inside));
}

module _ (edges : List Edge) (firsts nexts : List (Option ℕ)) (i : ℕ) (few : length edges ≤ 224) (known : (get_or edges i no_edge).to < 128) (l : i < length edges) (c : ChainedFrom edges firsts nexts (i + 1)) where
  abbrev goal : ℕ
  goal = (get_or edges i no_edge).to

  same_goal : (t : ℕ) → t ≡ goal → get_or (set firsts goal (Some i)) t None ≡ edge_into t i (drop i edges)
  same_goal t same =
      let at : goal < length firsts = omega (arith, known, c.first_rows) in
      ap (λ u. get_or (set firsts goal (Some i)) u None) same
      ∙ get_or-set_same firsts goal (Some i) None at
      ∙ sym (into_more edges t i l ∙ cond-true _ _ _ (eq-eqb goal t (sym same)))

  other_goal : (t : ℕ) → (t ≡ goal → ⊥) → get_or (set firsts goal (Some i)) t None ≡ edge_into t i (drop i edges)
  other_goal t other =
      get_or-set_other firsts goal t (Some i) None other
      ∙ c.first t
      ∙ sym (into_more edges t i l ∙ cond-false _ _ _ (ne_eqb goal t (λ e. other (sym e))))

  here : (j : ℕ) (e : Edge) → slice_get edges j ≡ Some e → j ≡ i → get_or (set nexts i (get_or firsts goal None)) j None ≡ edge_into e.to (j + 1) (drop (j + 1) edges)
  here j e at same =
      let place : i < length nexts = omega (arith, few, l, c.next_rows) in
      let is : get_or edges j no_edge ≡ e = get_or_from_slice_get edges j e no_edge at in
      ap (λ k. get_or (set nexts i (get_or firsts goal None)) k None) same
      ∙ get_or-set_same nexts i (get_or firsts goal None) None place
      ∙ c.first goal
      ∙ ap (λ k. edge_into (get_or edges k no_edge).to (k + 1) (drop (k + 1) edges)) (sym same)
      ∙ ap (λ (x : Edge). edge_into x.to (j + 1) (drop (j + 1) edges)) is

  later : (j : ℕ) (e : Edge) → i ≤ j → slice_get edges j ≡ Some e → (j ≡ i → ⊥) → get_or (set nexts i (get_or firsts goal None)) j None ≡ edge_into e.to (j + 1) (drop (j + 1) edges)
  later j e from at other =
      get_or-set_other nexts i j (get_or firsts goal None) None other ∙ c.next j e (omega (arith, from, other)) at

  pub one_more : ChainedFrom edges (set firsts goal (Some i)) (set nexts i (get_or firsts goal None)) i
  one_more = record {
    first_rows = length-set firsts goal (Some i) ∙ c.first_rows;
    next_rows = length-set nexts i (get_or firsts goal None) ∙ c.next_rows;
    within = omega (arith, l);
    first = λ t. ⊎_elim (same_goal t) (other_goal t) (cases_eq t goal);
    next = λ j e from at. ⊎_elim (λ (same : j ≡ i). here j e at same) (λ other. later j e from at other) (cases_eq j i);
  }

pub all_chained : (edges : List Edge) (firsts nexts : List (Option ℕ)) (i : ℕ) → i ≡ 0 → ChainedFrom edges firsts nexts i → Chained edges firsts nexts
all_chained edges firsts nexts i e c = record {
  first = λ t. c.first t ∙ ap (λ k. edge_into t k (drop k edges)) e;
  next = λ j edge at. c.next j edge (omega arith) at;
}

-- walking a chain

-- the edges into task t from the one at hand on
abbrev pub rest : List Edge → ℕ → Option ℕ → List (ℕ × Edge)
rest edges t None = []
rest edges t (Some i) = filter (λ x. x.1.to == t) (enumerate_from i (drop i edges))

-- the edge at hand leads to task t, and is at or after i
abbrev pub LeadsTo : List Edge → ℕ → ℕ → Option ℕ → Type 0
LeadsTo edges t i None = Unit {0}
LeadsTo edges t i (Some j) = (i ≤ j) × (j < length edges) × ((get_or edges j no_edge).to ≡ t)

pub record Sought (edges : List Edge) (t i : ℕ) (o : Option ℕ) : Type 0 where
  pub same : filter (λ x. x.1.to == t) (enumerate_from i (drop i edges)) ≡ rest edges t o
  pub leads : LeadsTo edges t i o

pub sought : (edges : List Edge) (t n i : ℕ) → length edges - i ≡ n → Sought edges t i (edge_into t i (drop i edges))
sought edges t zero i e =
    let none : drop i edges ≡ [] = drop_of_length-le edges (omega arith) in
    subst (Sought edges t i) (sym (ap (edge_into t i) none)) (record { same = ap (λ es. filter (λ x. x.1.to == t) (enumerate_from i es)) none; leads = tt })
sought edges t (suc n) i e =
    let l : i < length edges = omega arith in
    subst (Sought edges t i) (sym (into_more edges t i l)) (go ((get_or edges i no_edge).to == t) refl (sought edges t n (i + 1) (omega arith)))
  where
    sooner : (o : Option ℕ) → LeadsTo edges t (i + 1) o → LeadsTo edges t i o
    sooner None h = tt
    sooner (Some j) h = (omega (arith, h.0), h.1, h.2)

    go : (b : Bool) → ((get_or edges i no_edge).to == t) ≡ b → Sought edges t (i + 1) (edge_into t (i + 1) (drop (i + 1) edges)) → Sought edges t i (cond b (Some i) (edge_into t (i + 1) (drop (i + 1) edges)))
    go true is rest_of = record { same = refl; leads = (omega arith, omega arith, eqb-true _ _ is) }
    go false other rest_of =
        let l : i < length edges = omega arith in
        record {
          same = ap (λ es. filter (λ x. x.1.to == t) (enumerate_from i es)) (drop_more edges i no_edge l) ∙ cond-false _ _ _ other ∙ rest_of.same;
          leads = sooner (edge_into t (i + 1) (drop (i + 1) edges)) rest_of.leads;
        }

-- how far it is from the edge at hand to the end
abbrev pub to_go : List Edge → Option ℕ → ℕ
to_go edges None = 0
to_go edges (Some i) = length edges - i

pub closer : (edges : List Edge) (t i : ℕ) (o : Option ℕ) → i < length edges → LeadsTo edges t (i + 1) o → to_go edges o < length edges - i
closer edges t i None within leads = omega arith
closer edges t i (Some j) within leads = omega (arith, leads.0, leads.1)

pub from_begin : (edges : List Edge) (t i : ℕ) (o : Option ℕ) → LeadsTo edges t i o → LeadsTo edges t 0 o
from_begin edges t i None leads = tt
from_begin edges t i (Some j) leads = (omega arith, leads.1, leads.2)

module _ (edges : List Edge) (firsts nexts : List (Option ℕ)) (c : Chained edges firsts nexts) (t : ℕ) where
  pub first_sought : (o : Option ℕ) → o ≡ get_or firsts t None → Sought edges t 0 o
  first_sought o e = subst (Sought edges t 0) (sym (e ∙ c.first t)) (sought edges t (length edges - 0) 0 refl)

  pub next_sought : (i : ℕ) (o : Option ℕ) → i < length edges → (get_or edges i no_edge).to ≡ t → o ≡ get_or nexts i None → Sought edges t (i + 1) o
  next_sought i o within goal e =
      let is : o ≡ edge_into t (i + 1) (drop (i + 1) edges) = e ∙ c.next i (get_or edges i no_edge) (slice_get-get_or edges i no_edge within) ∙ ap (λ u. edge_into u (i + 1) (drop (i + 1) edges)) goal in
      subst (Sought edges t (i + 1)) (sym is) (sought edges t (length edges - (i + 1)) (i + 1) refl)
