-- What placing a task has found when it begins to book, and the rows as it will leave them.
use Rattle.std.proofs.Common.{◌≡◌, ℕ, ◌<◌, Bool, true, false, ◌≢◌, List, [], ◌∷◌, ◌++◌, length, get_or, set, Some, None, Option, ◌==◌, if◌then◌else◌, sym, refl, ap, ◌∙◌, subst, ⊎_elim, arith}
use Rattle.std.specs.List.{slice_get}
use Rattle.std.proofs.lemmas.List.{nil_from_length, get_or-set_same, get_or-set_other}
use Rattle.std.proofs.lemmas.Bool.{cases_eq, cases_lt}
use Rattle.model.specs.Data.{JobData, NetData, station_count}
use Rattle.model.specs.Plans.{PlanData, task_row, starts}
use Rattle.model.specs.declared.job.Edge.{Edge}
use Rattle.model.specs.declared.plan.Placement.{Placement}
use Rattle.routes.specs.Laws.{RouteLaws}
use Rattle.routes.specs.Legs.{Ways, way_between, way, legs_along, legs_at, legs}
use Rattle.routes.specs.declared.hop.Hop.{Hop}
use Rattle.planner.specs.Edges.{way_to}
use Rattle.planner.specs.States.{Given}
use Rattle.planner.proofs.ListTests.{some_same, none≢some}
use Rattle.certificate.proofs.EdgeLegs.{way_no_goal, legs_of_edge}
use Rattle.certificate.proofs.Entries.{Entry}
use Rattle.certificate.proofs.Helds.{RowsHeld, TasksHeld, EdgesHeld}
use Rattle.certificate.proofs.Hops.{LinksApart, route_links_apart}
use Rattle.certificate.proofs.Refusals.{Unrefused}

-- no link stands twice on the way between two rows

route_apart : (N : NetData) (ρ : Ways) → RouteLaws N ρ → (a b : ℕ) (hs : List Hop) → ρ a b ≡ Some hs → LinksApart hs
route_apart N ρ laws a b hs e = ⊎_elim (λ from. ⊎_elim (known from) (λ far. absurd (none≢some hs (sym (laws.unknown_goal a b far) ∙ e))) (cases_lt b (station_count N))) (λ far. absurd (none≢some hs (sym (laws.unknown_origin a b far) ∙ e))) (cases_lt a (station_count N))
  where
    known : a < station_count N → b < station_count N → LinksApart hs
    known from to = route_links_apart N a b hs ((laws.each_pair a b from to).each_route hs e)

pub links_apart : (N : NetData) (ρ : Ways) → RouteLaws N ρ → (a b : Option Placement) (hs : List Hop) → way_between ρ a b ≡ Some hs → LinksApart hs
links_apart N ρ laws None b hs e = subst LinksApart (some_same _ _ e) tt
links_apart N ρ laws (Some p) None hs e = subst LinksApart (some_same _ _ e) tt
links_apart N ρ laws (Some p) (Some q) hs e = go (p.station == q.station) e
  where
    go : (c : Bool) → (if c then Some [] else ρ p.station q.station) ≡ Some hs → LinksApart hs
    go true z = subst LinksApart (some_same _ _ z) tt
    go false z = route_apart N ρ laws p.station q.station hs z

pub record Setting (J : JobData) (N : NetData) (ρ : Ways) (P : PlanData) (L : List Entry) (t m : ℕ) : Type 0 where
  pub given : Given J N ρ
  pub rows : RowsHeld J N ρ P
  pub tasks : TasksHeld J N ρ P L
  pub edges : EdgesHeld J N ρ P L
  pub asked : Unrefused J N ρ P t m

no_legs : (N : NetData) (v : ℕ) (w : Option (List Hop)) → legs_along N v w [] ≡ []
no_legs N v None = refl
no_legs N v (Some []) = refl
no_legs N v (Some (h ∷ hs)) = refl

-- the plan with the task's row set, over some transfer rows
abbrev pub with_row : PlanData → ℕ → ℕ → ℕ → List (List ℕ) → PlanData
with_row P t m s transfers = record { tasks = set P.tasks t (Some (record { station = m; start = s })); transfers = transfers; steps = P.steps ++ t ∷ [] }

module _ (J : JobData) (N : NetData) (ρ : Ways) (P : PlanData) (L : List Entry) (t m : ℕ) (G : Setting J N ρ P L t m) (s : ℕ) where
  abbrev pub at : List (List ℕ) → PlanData
  at = with_row P t m s

  pub row_new : (trs : List (List ℕ)) → task_row (at trs) t ≡ Some (record { station = m; start = s })
  row_new trs = get_or-set_same P.tasks t (Some (record { station = m; start = s })) None (omega (arith, G.asked.known, G.given.job.few_tasks, G.rows.task_rows))

  pub row_old : (trs : List (List ℕ)) (u : ℕ) → u ≢ t → task_row (at trs) u ≡ task_row P u
  row_old trs u n = get_or-set_other P.tasks t u (Some (record { station = m; start = s })) None n

  -- a task that is placed before is another
  pub old_is_other : (u : ℕ) (p : Placement) → task_row P u ≡ Some p → u ≢ t
  old_is_other u p r e = none≢some p (sym (ap (λ v. task_row P v) e ∙ G.asked.blank) ∙ r)

  pub from_other : (i : ℕ) (e : Edge) → slice_get J.edges i ≡ Some e → e.to ≡ t → e.from ≢ t
  from_other i e n to z = omega (arith, (G.given.job.each_rises i e n).0, z, to)

  -- the start of a row is nothing to its way
  same_way : (a : Option Placement) → way_between ρ a (Some (record { station = m; start = s })) ≡ way_between ρ a (Some (record { station = m; start = 0 }))
  same_way None = refl
  same_way (Some p) = refl

  pub way_into : (trs : List (List ℕ)) (i : ℕ) (e : Edge) → slice_get J.edges i ≡ Some e → e.to ≡ t → way ρ (at trs) e ≡ way_to ρ P m e
  way_into trs i e n to =
      ap (λ x. way_between ρ x (task_row (at trs) e.to)) (row_old trs e.from (from_other i e n to))
      ∙ ap (λ x. way_between ρ (task_row P e.from) x) (ap (λ u. task_row (at trs) u) to ∙ row_new trs)
      ∙ same_way (task_row P e.from)

  pub way_other : (trs : List (List ℕ)) (i : ℕ) (e : Edge) → slice_get J.edges i ≡ Some e → e.to ≢ t → way ρ (at trs) e ≡ way ρ P e
  way_other trs i e n to = ⊎_elim leaving (λ z. ap (λ x. way_between ρ x (task_row (at trs) e.to)) (row_old trs e.from z) ∙ there) (cases_eq e.from t)
    where
      there : way_between ρ (task_row P e.from) (task_row (at trs) e.to) ≡ way_between ρ (task_row P e.from) (task_row P e.to)
      there = ap (λ x. way_between ρ (task_row P e.from) x) (row_old trs e.to to)

      none : e.from ≡ t → task_row P e.to ≡ None
      none z = go (task_row P e.to) refl
        where
          go : (o : Option Placement) → task_row P e.to ≡ o → task_row P e.to ≡ None
          go None r = r
          go (Some q) r = let b = G.rows.before i e q n r in absurd (old_is_other e.from b.0 b.1 z)

      leaving : e.from ≡ t → way ρ (at trs) e ≡ way ρ P e
      leaving z =
          let x : task_row (at trs) e.to ≡ None = row_old trs e.to to ∙ none z in
          way_no_goal ρ (at trs) e x ∙ sym (way_no_goal ρ P e (none z))

  -- an edge into the task has no starts yet
  pub no_starts : (i : ℕ) (e : Edge) → slice_get J.edges i ≡ Some e → e.to ≡ t → starts P i ≡ []
  no_starts i e n to =
      let w = G.rows.ways i e n in
      let z : way ρ P e ≡ Some [] = way_no_goal ρ P e (ap (λ u. task_row P u) to ∙ G.asked.blank) in
      nil_from_length (starts P i) (w.2 ∙ ap length (some_same _ _ (sym w.1 ∙ z)))

  pub no_legs_yet : (i : ℕ) (e : Edge) → slice_get J.edges i ≡ Some e → e.to ≡ t → (trs : List (List ℕ)) → get_or trs i [] ≡ starts P i → legs J N ρ (at trs) i ≡ []
  no_legs_yet i e n to trs same = legs_of_edge J N ρ (at trs) i e n ∙ ap (λ x. legs_along N e.volume (way ρ (at trs) e) x) (same ∙ no_starts i e n to) ∙ no_legs N e.volume (way ρ (at trs) e)

  pub legs_old : (i : ℕ) (trs : List (List ℕ)) → get_or trs i [] ≡ starts P i → legs J N ρ (at trs) i ≡ legs J N ρ P i
  legs_old i trs same = go (slice_get J.edges i) refl
    where
      into : (e : Edge) → slice_get J.edges i ≡ Some e → e.to ≡ t → legs J N ρ (at trs) i ≡ legs J N ρ P i
      into e n to = no_legs_yet i e n to trs same ∙ sym (legs_of_edge J N ρ P i e n ∙ ap (λ x. legs_along N e.volume (way ρ P e) x) (no_starts i e n to) ∙ no_legs N e.volume (way ρ P e))

      other : (e : Edge) → slice_get J.edges i ≡ Some e → e.to ≢ t → legs J N ρ (at trs) i ≡ legs J N ρ P i
      other e n to = legs_of_edge J N ρ (at trs) i e n ∙ ap (λ x. legs_along N e.volume (way ρ (at trs) e) x) same ∙ ap (λ w. legs_along N e.volume w (starts P i)) (way_other trs i e n to) ∙ sym (legs_of_edge J N ρ P i e n)

      go : (o : Option Edge) → slice_get J.edges i ≡ o → legs J N ρ (at trs) i ≡ legs J N ρ P i
      go None n = ap (legs_at N ρ (at trs) i) n ∙ sym (ap (legs_at N ρ P i) n)
      go (Some e) n = ⊎_elim (into e n) (other e n) (cases_eq e.to t)

  -- the legs of an edge depend on its own starts alone
  pub legs_kept : (i : ℕ) (trs trs' : List (List ℕ)) → get_or trs i [] ≡ get_or trs' i [] → legs J N ρ (at trs) i ≡ legs J N ρ (at trs') i
  legs_kept i trs trs' same = go (slice_get J.edges i)
    where
      go : (o : Option Edge) → legs_at N ρ (at trs) i o ≡ legs_at N ρ (at trs') i o
      go None = refl
      go (Some e) = ap (λ x. legs_along N e.volume (way ρ (at trs) e) x) same
