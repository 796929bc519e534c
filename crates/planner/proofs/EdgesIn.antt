-- The transfers into a task that are being booked, edge by edge.
use Rattle.std.proofs.Common.{◌≡◌, ◌≢◌, ℕ, ◌+◌, ◌<◌, ◌≤◌, Bool, true, false, not, List, [], ◌∷◌, map, length, get_or, is_some, Some, None, Ok, Err, option_map, Result, refl, sym, ap, subst, ◌∙◌, ◌==◌, eq-eqb, arith}
use Rattle.std.specs.List.{slice_get, sum_by}
use Rattle.std.proofs.lemmas.List.Sums.{sum_by-cons}
use Rattle.std.proofs.lemmas.Option.{slice_get-get_or, slice_get-map}
use Rattle.model.specs.Data.{JobData, NetData}
use Rattle.model.specs.Plans.{PlanData, with_starts}
use Rattle.model.specs.declared.job.Edge.{Edge}
use Rattle.model.specs.declared.refusal.Refusal.{Refusal}
use Rattle.routes.specs.Hops.{hops_of}
use Rattle.routes.specs.Legs.{Ways, way_between}
use Rattle.timetable.specs.Earliest.{least}
use Rattle.timetable.specs.Tables.{Table}
use Rattle.planner.specs.Booked.{Extends, brought_so}
use Rattle.planner.specs.Chains.{and_then}
use Rattle.planner.specs.Drawing.{without_transfers}
use Rattle.planner.specs.Edges.{incoming, is_placed, way_to}
use Rattle.planner.specs.Placing.{Brought, bring, bring_all, unplaced_predecessor}
use Rattle.planner.proofs.Fronts.{extends_both, extends_most}
use Rattle.planner.proofs.Incoming.{into_from, into_here, into_skip, into_end, emptied, emptied_first}
use Rattle.planner.proofs.Members.{filtered_at, none_filtered, numbered_at}

abbrev pub no_edge : Edge
no_edge = record { from = 0; to = 0; volume = 0 }

-- what the tests of place say of each edge into the task

none_least : (xs : List ℕ) → least xs ≡ None → xs ≡ []
none_least [] e = refl
none_least (x ∷ xs) e = cc e

pub all_placed : (J : JobData) (P : PlanData) (t k : ℕ) (x : ℕ × Edge) → unplaced_predecessor J P t ≡ None → slice_get (incoming J t) k ≡ Some x → is_placed P x.1.from ≡ true
all_placed J P t k x none at =
    let from : slice_get (map (λ (i, e). e.from) (incoming J t)) k ≡ Some x.1.from = slice_get-map (λ (i, e). e.from) (incoming J t) k ∙ ap (option_map (λ (i, e). e.from)) at in
    go (is_placed P x.1.from) (none_filtered (λ u. not (is_placed P u)) _ k x.1.from (none_least _ none) from)
  where
    go : (b : Bool) → not b ≡ false → b ≡ true
    go true e = refl
    go false e = cc e

-- the edge at a place, if it is into the task, is one of those
pub incoming_at : (J : JobData) (t i : ℕ) (e : Edge) → i < length J.edges → get_or J.edges i no_edge ≡ e → e.to ≡ t → (k : ℕ) × (slice_get (incoming J t) k ≡ Some (i, e))
incoming_at J t i e within at here =
    let number : 0 + i ≡ i = omega arith in
    filtered_at (λ (j, x). x.to == t) _ i _
    (numbered_at 0 J.edges i _ (slice_get-get_or J.edges i no_edge within ∙ ap Some at) ∙ ap (λ k. Some (k, e)) number)
    (eq-eqb _ _ here)

-- plans with the same tasks have the same ways
pub same_way : (ρ : Ways) (P Q : PlanData) (m : ℕ) (e : Edge) → P.tasks ≡ Q.tasks → way_to ρ P m e ≡ way_to ρ Q m e
same_way ρ P Q m e same = ap (λ ts. way_between ρ (get_or ts e.from None) (Some (record { station = m; start = 0 }))) same

abbrev pub hops_needed : Ways → PlanData → ℕ → List (ℕ × Edge) → ℕ
hops_needed ρ P m es = sum_by (λ (i, e). length (hops_of (way_to ρ P m e))) es

all_opened : (J : JobData) (N : NetData) (ρ : Ways) (m : ℕ) (x : ℕ × Edge) (es : List (ℕ × Edge)) (B : Brought) → bring_all J N ρ m (x ∷ es) B ≡ and_then (bring J N ρ m x B) (bring_all J N ρ m es)
unfolding bring_all
all_opened J N ρ m x es B = refl

all_closed : (J : JobData) (N : NetData) (ρ : Ways) (m : ℕ) (B : Brought) → bring_all J N ρ m [] B ≡ Ok B
unfolding bring_all
all_closed J N ρ m B = refl

module _ (J : JobData) (N : NetData) (ρ : Ways) (t m : ℕ) (P0 : PlanData) (A : Table) (whole : Result Brought Refusal) where
  -- where the transfers into the task stand after the edges below i
  pub record Bringing (i : ℕ) (P : PlanData) (T : Table) (ready : ℕ) : Type 0 where
    pub same : bring_all J N ρ m (into_from J.edges t i) (brought_so P T ready) ≡ whole
    pub tasks : P.tasks ≡ P0.tasks
    pub rows : without_transfers J t P ≡ P0
    pub kept : Extends T A
    pub room : length T.bookings + (hops_needed ρ P0 m (into_from J.edges t i) + 1) ≤ T.most

  module _ (i : ℕ) (P : PlanData) (T : Table) (ready : ℕ) (u : Bringing i P T ready) where
    pub finished : length J.edges ≤ i → Ok (brought_so P T ready) ≡ whole
    finished past =
        sym (all_closed J N ρ m (brought_so P T ready))
        ∙ sym (ap (λ es. bring_all J N ρ m es (brought_so P T ready)) (into_end J.edges t i past))
        ∙ u.same

    pub still_room : length T.bookings < T.most
    still_room = omega (arith, u.room)

    module _ (e : Edge) (within : i < length J.edges) (at : get_or J.edges i no_edge ≡ e) where
      skipped : (e.to ≢ t) → into_from J.edges t i ≡ into_from J.edges t (i + 1)
      skipped other = into_skip J.edges t i no_edge within (λ same. other (ap (λ x. x.to) (sym at) ∙ same))

      pub skips : (e.to ≢ t) → Bringing (i + 1) P T ready
      skips other = record {
        same = sym (ap (λ es. bring_all J N ρ m es (brought_so P T ready)) (skipped other)) ∙ u.same;
        tasks = u.tasks;
        rows = u.rows;
        kept = u.kept;
        room = subst (λ es. length T.bookings + (hops_needed ρ P0 m es + 1) ≤ T.most) (skipped other) u.room;
      }

      module _ (into : e.to ≡ t) where
        taken : into_from J.edges t i ≡ (i, e) ∷ into_from J.edges t (i + 1)
        taken = into_here J.edges t i no_edge within (ap (λ x. x.to) at ∙ into) ∙ ap (λ x. (i, x) ∷ into_from J.edges t (i + 1)) at

        abbrev hop_count : PlanData → ℕ
        hop_count X = length (hops_of (way_to ρ X m e))

        needs : hops_needed ρ P0 m (into_from J.edges t i) ≡ hop_count P0 + hops_needed ρ P0 m (into_from J.edges t (i + 1))
        needs = ap (hops_needed ρ P0 m) taken ∙ sum_by-cons (λ (i, e). length (hops_of (way_to ρ P0 m e))) (i, e) (into_from J.edges t (i + 1))

        counts : hop_count P ≡ hop_count P0
        counts = ap (λ w. length (hops_of w)) (same_way ρ P P0 m e u.tasks)

        pub edge_room : length T.bookings + hop_count P ≤ T.most
        edge_room = omega (arith, u.room, needs, counts)

        pub edge_placed : unplaced_predecessor J P0 t ≡ None → is_placed P e.from ≡ true
        edge_placed none =
            let member = incoming_at J t i e within at into in
            ap (λ ts. is_some (get_or ts e.from None)) u.tasks ∙ all_placed J P0 t member.0 (i, e) none member.1

        turned : and_then (bring J N ρ m (i, e) (brought_so P T ready)) (bring_all J N ρ m (into_from J.edges t (i + 1))) ≡ whole
        turned =
            sym (all_opened J N ρ m (i, e) (into_from J.edges t (i + 1)) (brought_so P T ready))
            ∙ sym (ap (λ es. bring_all J N ρ m es (brought_so P T ready)) taken)
            ∙ u.same

        pub rows_after : (Q : PlanData) → with_starts Q i [] ≡ with_starts P i [] → without_transfers J t Q ≡ P0
        rows_after Q row =
            let member = incoming_at J t i e within at into in
            emptied_first (incoming J t) Q member.0 (i, e) member.1
            ∙ ap (λ X. emptied X (incoming J t)) row
            ∙ sym (emptied_first (incoming J t) P member.0 (i, e) member.1)
            ∙ u.rows

        pub brings : (Q : PlanData) (U : Table) (next : ℕ) → Ok (brought_so Q U next) ≡ bring J N ρ m (i, e) (brought_so P T ready) → with_starts Q i [] ≡ with_starts P i [] → Extends U T → length U.bookings ≤ length T.bookings + hop_count P → Bringing (i + 1) Q U next
        brings Q U next answer row kept few = record {
          same = ap (λ r. and_then r (bring_all J N ρ m (into_from J.edges t (i + 1)))) answer ∙ turned;
          tasks = ap (λ X. X.tasks) row ∙ u.tasks;
          rows = rows_after Q row;
          kept = extends_both U T A kept u.kept;
          room = omega (arith, u.room, needs, counts, few, extends_most U T kept);
        }

        pub refused : (x : Refusal) → Err x ≡ bring J N ρ m (i, e) (brought_so P T ready) → Err x ≡ whole
        refused x answer = ap (λ r. and_then r (bring_all J N ρ m (into_from J.edges t (i + 1)))) answer ∙ turned

  -- the same at what the code holds
  pub brings_on : (i : ℕ) (P Q : PlanData) (T U : Table) (ready next : ℕ) → Q ≡ P → U ≡ T → next ≡ ready → Bringing i P T ready → Bringing i Q U next
  brings_on i P Q T U ready next a b c u =
      subst (λ x. Bringing i x U next) (sym a) (subst (λ x. Bringing i P x next) (sym b) (subst (λ x. Bringing i P T x) (sym c) u))
