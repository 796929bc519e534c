-- A job is refused nothing exactly if its limits hold.
use Rattle.std.proofs.Common.{◌≡◌, ℕ, zero, suc, ◌+◌, ◌<◌, ◌≤◌, true, false, ◌||◌, List, [], ◌∷◌, length, take, Some, None, sym, refl, ap, ◌∙◌, ⊎_elim, zero-add, arith}
use Rattle.std.proofs.lemmas.Bool.{cases_Bool, true≢false}
use Rattle.std.proofs.lemmas.Bool.Decides.{nat_tests}
use Rattle.std.specs.List.{list_any, slice_get}
use Rattle.model.specs.Refusals.{or_else, first_refusal}
use Rattle.model.specs.Data.{job_of}
use Rattle.model.specs.JobLimits.{task_refusal, same_pair, joins_pair, edge_refusal, job_refusal, JobLimits}
use Rattle.model.specs.declared.job.Edge.{Edge}
use Rattle.model.specs.declared.job.Job.{Job}
use Rattle.model.proofs.Firsts.{some≢none, none_from, or_none, or_both, first_passes, first_pass}

-- an edge that joins the pair, by its place
pair_at : (e : Edge) (fs : List Edge) (k : ℕ) (f : Edge) → slice_get fs k ≡ Some f → same_pair e f ≡ true → joins_pair e fs ≡ true
pair_at e [] k f at same = absurd (some≢none (sym at))
pair_at e (g ∷ gs) zero f at same =
    let here : g ≡ f = cc in
    let hit : same_pair e g ≡ true = ap (same_pair e) here ∙ same in
    grind (arith, nat_tests)
pair_at e (g ∷ gs) (suc k) f at same = let later = pair_at e gs k f at same in grind (arith, nat_tests)

no_pair : (e : Edge) (fs : List Edge) → ((k : ℕ) (f : Edge) → slice_get fs k ≡ Some f → same_pair e f ≡ false) → joins_pair e fs ≡ false
no_pair e [] none = refl
no_pair e (g ∷ gs) none =
    let here = none 0 g refl in
    let later = no_pair e gs (λ k. none (suc k)) in
    grind (arith, nat_tests)

nth_take : {X : Type 0} (n : ℕ) (xs : List X) (k : ℕ) (x : X) → k < n → slice_get xs k ≡ Some x → slice_get (take n xs) k ≡ Some x
nth_take zero xs k x l e = absurd (omega arith)
nth_take (suc n) [] k x l e = absurd (some≢none (sym e))
nth_take (suc n) (y ∷ ys) zero x l e = e
nth_take (suc n) (y ∷ ys) (suc k) x l e = nth_take n ys k x (omega arith) e

take_nth : {X : Type 0} (n : ℕ) (xs : List X) (k : ℕ) (x : X) → slice_get (take n xs) k ≡ Some x → (k < n) × (slice_get xs k ≡ Some x)
take_nth zero xs k x e = absurd (some≢none (sym e))
take_nth (suc n) [] k x e = absurd (some≢none (sym e))
take_nth (suc n) (y ∷ ys) zero x e = (omega arith, e)
take_nth (suc n) (y ∷ ys) (suc k) x e = let r = take_nth n ys k x e in (omega (arith, r.0), r.1)

record Lists (works : List ℕ) (edges : List Edge) : Type 0 where
  some : 1 ≤ length works
  few : length works ≤ 128
  few_edges : length edges ≤ 224
  tasks_pass : first_refusal task_refusal 0 works ≡ None
  edges_pass : first_refusal (edge_refusal (length works) edges) 0 edges ≡ None

lists : (works : List ℕ) (edges : List Edge) → job_refusal works edges ≡ None → Lists works edges
lists works edges e =
    let first = first_refusal task_refusal 0 works in
    let second = first_refusal (edge_refusal (length works) edges) 0 edges in
    let inner : or_else first second ≡ None = grind (arith, nat_tests) in
    let both = or_none first second inner in
    record { some = grind (arith, nat_tests); few = grind (arith, nat_tests); few_edges = grind (arith, nat_tests); tasks_pass = both.0; edges_pass = both.1 }

record EdgePasses (n : ℕ) (edges : List Edge) (i : ℕ) (e : Edge) : Type 0 where
  low : 1 ≤ e.volume
  high : e.volume ≤ 1000000
  rising : e.from < e.to
  known : e.to < n
  fresh : joins_pair e (take i edges) ≡ false

edge_parts : (n : ℕ) (edges : List Edge) (i : ℕ) (e : Edge) → edge_refusal n edges i e ≡ None → EdgePasses n edges i e
edge_parts n edges i e none = record { low = grind (arith, nat_tests); high = grind (arith, nat_tests); rising = grind (arith, nat_tests); known = grind (arith, nat_tests); fresh = grind (arith, nat_tests) }

edge_passes : (n : ℕ) (edges : List Edge) (i : ℕ) (e : Edge) → EdgePasses n edges i e → edge_refusal n edges i e ≡ None
edge_passes n edges i e p = grind (arith, nat_tests, p.low, p.high, p.rising, p.known, p.fresh)

task_parts : (t w : ℕ) → task_refusal t w ≡ None → (1 ≤ w) × (w ≤ 1000000)
task_parts t w none = (grind (arith, nat_tests), grind (arith, nat_tests))

task_passes : (t w : ℕ) → (1 ≤ w) × (w ≤ 1000000) → task_refusal t w ≡ None
task_passes t w p = grind (arith, nat_tests, p.0, p.1)

pub job_limits : (works : List ℕ) (edges : List Edge) → job_refusal works edges ≡ None → JobLimits works edges
job_limits works edges none =
    let l = lists works edges none in
    let edge : (i : ℕ) (e : Edge) → slice_get edges i ≡ Some e → EdgePasses (length works) edges i e = λ i e at.
    edge_parts (length works) edges i e (ap (λ n. edge_refusal (length works) edges n e) (sym (zero-add i)) ∙ first_passes (edge_refusal (length works) edges) 0 edges l.edges_pass i e at) in
    record {
      some_task = l.some;
      few_tasks = l.few;
      few_edges = l.few_edges;
      each_work = λ t w at. task_parts (0 + t) w (first_passes task_refusal 0 works l.tasks_pass t w at);
      each_volume = λ i e at. ((edge i e at).low, (edge i e at).high);
      each_rises = λ i e at. ((edge i e at).rising, (edge i e at).known);
      pairs_differ = λ i j e f less at_i at_j from to.
          let same : same_pair f e ≡ true = grind (arith, nat_tests) in
          true≢false (sym (pair_at f (take j edges) i e (nth_take j edges i e less at_i) same) ∙ (edge j f at_j).fresh);
    }

pub job_passes : (works : List ℕ) (edges : List Edge) → JobLimits works edges → job_refusal works edges ≡ None
job_passes works edges l =
    let tasks : first_refusal task_refusal 0 works ≡ None = first_pass task_refusal 0 works (λ t w at. task_passes (0 + t) w (l.each_work t w at)) in
    let fresh : (i : ℕ) (e : Edge) → slice_get edges i ≡ Some e → joins_pair e (take i edges) ≡ false = λ i e at.
    no_pair e (take i edges) (λ k f at_k.
    let r = take_nth i edges k f at_k in
    ⊎_elim (λ (hit : same_pair e f ≡ true). absurd (l.pairs_differ k i f e r.0 r.1 at (grind (arith, nat_tests)) (grind (arith, nat_tests)))) (λ miss. miss) (cases_Bool (same_pair e f))) in
    let edges_pass : first_refusal (edge_refusal (length works) edges) 0 edges ≡ None = first_pass (edge_refusal (length works) edges) 0 edges (λ i e at.
    ap (λ n. edge_refusal (length works) edges n e) (zero-add i) ∙ edge_passes (length works) edges i e (record { low = (l.each_volume i e at).0; high = (l.each_volume i e at).1; rising = (l.each_rises i e at).0; known = (l.each_rises i e at).1; fresh = fresh i e at })) in
    let inner : or_else (first_refusal task_refusal 0 works) (first_refusal (edge_refusal (length works) edges) 0 edges) ≡ None = or_both _ _ tasks edges_pass in
    grind (arith, nat_tests, inner, l.some_task, l.few_tasks, l.few_edges)

-- what the limits of a job tell the crates above
pub of_job : (j : Job) → JobLimits (job_of j).works (job_of j).edges
of_job j = job_limits (job_of j).works (job_of j).edges (none_from (job_refusal (job_of j).works (job_of j).edges) j.limits)

-- an edge joins the pair of one of a list
pub joins_any : (e : Edge) (fs : List Edge) → joins_pair e fs ≡ list_any (same_pair e) fs
joins_any e [] = refl
joins_any e (f ∷ fs) = ap (λ b. same_pair e f || b) (joins_any e fs)
