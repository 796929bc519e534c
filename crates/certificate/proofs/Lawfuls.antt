-- A plan that is held has no fault.
use Rattle.std.proofs.Common.{◌≡◌, ℕ, zero, suc, ◌-◌, ◌≤◌, true, ◌≢◌, List, [], ◌∷◌, length, Some, sym, refl, ap, ◌∙◌, subst, arith}
use Rattle.std.proofs.lemmas.Bool.{both_ways, and_parts, and_from, eqb-true, eq-eqb, ltb-true, lt-ltb}
use Rattle.std.proofs.lemmas.List.{nil_from_length}
use Rattle.std.specs.List.{slice_get}
use Rattle.model.specs.Bookings.{end, collide, Share}
use Rattle.model.specs.Data.{JobData, NetData}
use Rattle.model.specs.Plans.{PlanData, task_row, starts, task_booking, finish}
use Rattle.model.specs.declared.booking.Booking.{Booking}
use Rattle.model.specs.declared.job.Edge.{Edge}
use Rattle.model.proofs.Firsts.{some≢none}
use Rattle.routes.specs.Legs.{Ways, way, legs}
use Rattle.planner.specs.Outcomes.{DrawState}
use Rattle.planner.proofs.ListTests.{some_same}
use Rattle.marker.specs.Faults.{Fault, NoFault, no_task, no_machine, no_edge, unplaced, no_route, other_count, same_machine, no_origin, no_goal, late_task, late_transfer, too_soon, before_first, overtakes, before_transfer, before_task, two_tasks, two_transfers}
use Rattle.marker.specs.declared.verdict.Rule.TheVariants.{Rows, Predecessors, Routed, WithinLimit, Departure, Causality, Arrival, Machines, Links}
use Rattle.certificate.proofs.Entries.{Owner, task, edge, Entry, Sound}
use Rattle.certificate.proofs.Hops.{arrival, Leaves, OnTime}
use Rattle.certificate.proofs.Helds.{Held, EdgesHeld, TasksHeld, RowsHeld}
use Rattle.certificate.proofs.EdgeLegs.{nth_in, arrival_last, same_machine_legs, leg_origin, way_no_origin, way_no_goal, way_same_machine, way_by_route}

-- what leaving in order says of the legs
module _ (L : List Entry) (o : Owner) where
  leaves_first : (f : ℕ) (bs : List Booking) (b : Booking) → Leaves L o f bs → slice_get bs 0 ≡ Some b → f ≤ b.start
  leaves_first f [] b h e = absurd (some≢none (sym e))
  leaves_first f (c ∷ cs) b h e = subst (λ x. f ≤ x.start) (some_same c b e) h.0

  on_time_after : (first before : ℕ) (bs : List Booking) (k : ℕ) (b : Booking) → OnTime L o first before bs → slice_get bs k ≡ Some b → first ≤ b.start
  on_time_after first before [] k b h e = absurd (some≢none (sym e))
  on_time_after first before (c ∷ cs) zero b h e = subst (λ x. first ≤ x.start) (some_same c b e) (omega (arith, h.0))
  on_time_after first before (c ∷ cs) (suc k) b h e = on_time_after first (end c) cs k b h.2 e

  on_time_later : (first : ℕ) (a : Booking) (bs : List Booking) (k : ℕ) (x y : Booking) → OnTime L o first (end a) bs → slice_get (a ∷ bs) k ≡ Some x → slice_get bs k ≡ Some y → end x ≤ end y
  on_time_later first a [] k x y h d e = absurd (some≢none (sym e))
  on_time_later first a (c ∷ cs) zero x y h d e = subst (λ u. end u ≤ end y) (some_same a x d) (subst (λ u. end a ≤ end u) (some_same c y e) (omega (arith, h.0)))
  on_time_later first a (c ∷ cs) (suc k) x y h d e = on_time_later first c cs k x y h.2 d e

  leaves_after : (f : ℕ) (bs : List Booking) (k : ℕ) (a b : Booking) → Leaves L o f bs → slice_get bs 0 ≡ Some a → slice_get bs (suc k) ≡ Some b → a.start ≤ b.start
  leaves_after f [] k a b h d e = absurd (some≢none (sym e))
  leaves_after f (c ∷ cs) k a b h d e = subst (λ x. x.start ≤ b.start) (some_same c a d) (on_time_after c.start (end c) cs k b h.2 e)

  leaves_later : (f : ℕ) (bs : List Booking) (k : ℕ) (a b : Booking) → Leaves L o f bs → slice_get bs k ≡ Some a → slice_get bs (suc k) ≡ Some b → end a ≤ end b
  leaves_later f [] k a b h d e = absurd (some≢none (sym e))
  leaves_later f (c ∷ cs) k a b h d e = on_time_later c.start c cs k a b h.2 d e

pub share_collide : (a b : Booking) → a.resource ≡ b.resource → Share a.start a.length b.start b.length → collide a b ≡ true
share_collide a b e s = and_from _ _ (eq-eqb _ _ e) (lt-ltb _ _ s)

pub collide_share : (a b : Booking) → collide a b ≡ true → (a.resource ≡ b.resource) × Share a.start a.length b.start b.length
collide_share a b h = let parts = and_parts _ _ h in (eqb-true _ _ parts.0, ltb-true _ _ parts.1)

task_apart : (t u : ℕ) → t ≢ u → task t ≢ task u
task_apart t u n e = n (cc)

edge_apart : (t u : ℕ) → t ≢ u → edge t ≢ edge u
edge_apart t u n e = n (cc)

module _ (J : JobData) (N : NetData) (ρ : Ways) (S : DrawState) (H : Held J N ρ S) where
  abbrev P : PlanData
  P = S.plan

  abbrev L : List Entry
  L = H.ledger

  abbrev R : RowsHeld J N ρ S.plan
  R = H.rows

  abbrev Ta : TasksHeld J N ρ S.plan H.ledger
  Ta = H.tasks

  abbrev Ed : EdgesHeld J N ρ S.plan H.ledger
  Ed = H.edges

  abbrev sound : Sound S.table.horizon H.ledger
  sound = H.held.sound

  no_rows : (x y : ℕ) → Fault J N ρ P Rows x y → ⊥
  no_rows x y (no_task t p r l) = omega (arith, R.known t p r)
  no_rows x y (no_machine t p r m) = both_ways _ m (R.machine t p r)
  no_rows x y (no_edge i n l) = n (R.empty i l)

  no_predecessors : (x y : ℕ) → Fault J N ρ P Predecessors x y → ⊥
  no_predecessors x y (unplaced i e q k r n) = let b = R.before i e q k r in some≢none (sym b.1 ∙ n)

  -- an edge by no hop has no starts
  no_starts : (i : ℕ) (e : Edge) → slice_get J.edges i ≡ Some e → way ρ P e ≡ Some [] → starts P i ≡ []
  no_starts i e k w =
      let v = R.ways i e k in
      nil_from_length (starts P i) (v.2 ∙ ap length (some_same _ _ (sym v.1 ∙ w)))

  no_routed : (x y : ℕ) → Fault J N ρ P Routed x y → ⊥
  no_routed x y (no_route i e p q k rp rq ne none) = let v = R.ways i e k in some≢none (sym v.1 ∙ way_by_route ρ P e p q rp rq ne ∙ none)
  no_routed x y (other_count i e p q hs k rp rq ne w n) =
      let v = R.ways i e k in
      n (v.2 ∙ ap length (some_same _ _ (sym v.1 ∙ way_by_route ρ P e p q rp rq ne ∙ w)))
  no_routed x y (same_machine i e p q k rp rq s n) = n (no_starts i e k (way_same_machine ρ P e p q rp rq s))
  no_routed x y (no_origin i e k r n) = n (no_starts i e k (way_no_origin ρ P e r))
  no_routed x y (no_goal i e k r n) = n (no_starts i e k (way_no_goal ρ P e r))

  no_within : (x y : ℕ) → Fault J N ρ P WithinLimit x y → ⊥
  no_within x y (late_task t p r l) = let w : end (task_booking J N t p) ≤ S.table.horizon = sound.within _ (Ta.task_in t p r) in omega (arith, w, l, H.small)
  no_within x y (late_transfer i k b m l) = let w : end b ≤ S.table.horizon = sound.within _ (Ed.edge_in i b (nth_in _ k b m)) in omega (arith, w, l, H.small)

  no_departure : (x y : ℕ) → Fault J N ρ P Departure x y → ⊥
  no_departure x y (too_soon i e p b n r m l) = let w = leaves_first L (edge i) _ _ b (Ed.leaves i e p n r) m in omega (arith, w, l)

  no_causality : (x y : ℕ) → Fault J N ρ P Causality x y → ⊥
  no_causality x y (before_first i k a b f m l) =
      let o = leg_origin J N ρ P i 0 a f in
      let w = leaves_after L (edge i) _ _ k a b (Ed.leaves i o.0 o.1 o.2 o.3) f m in omega (arith, w, l)
  no_causality x y (overtakes i k a b f m l) =
      let o = leg_origin J N ρ P i k a f in
      let w = leaves_later L (edge i) _ _ k a b (Ed.leaves i o.0 o.1 o.2 o.3) f m in omega (arith, w, l)

  no_arrival : (x y : ℕ) → Fault J N ρ P Arrival x y → ⊥
  no_arrival x y (before_transfer i e q b n r m l) =
      let o = leg_origin J N ρ P i (length (legs J N ρ P i) - 1) b m in
      let same : o.0 ≡ e = some_same _ _ (sym o.2 ∙ n) in
      let w = Ta.ready e.to q r i e o.1 n refl (subst (λ x. task_row P x.from ≡ Some o.1) same o.3) in
      let z = arrival_last (finish J N e.from o.1) (legs J N ρ P i) b m in
      omega (arith, w, z, l)
  no_arrival x y (before_task i e p q n rp rq s l) =
      let w = Ta.ready e.to q rq i e p n refl rp in
      let z = ap (λ bs. arrival (finish J N e.from p) bs) (same_machine_legs J N ρ P i e p q n rp rq s) in
      omega (arith, w, z, l)

  no_machines : (x y : ℕ) → Fault J N ρ P Machines x y → ⊥
  no_machines x y (two_tasks t u p q l rt ru s sh) =
      both_ways _ (sound.apart _ _ (Ta.task_in t p rt) (Ta.task_in u q ru) (task_apart t u (λ e. omega (arith, e, l)))) (share_collide (task_booking J N t p) (task_booking J N u q) s sh)

  no_links : (x y : ℕ) → Fault J N ρ P Links x y → ⊥
  no_links x y (two_transfers i j k l a b lt na nb s sh) =
      both_ways _ (sound.apart _ _ (Ed.edge_in i a (nth_in _ k a na)) (Ed.edge_in j b (nth_in _ l b nb)) (edge_apart i j (λ e. omega (arith, e, lt)))) (share_collide a b s sh)

  pub held_no_fault : NoFault J N ρ S.plan
  held_no_fault Rows = no_rows
  held_no_fault Predecessors = no_predecessors
  held_no_fault Routed = no_routed
  held_no_fault WithinLimit = no_within
  held_no_fault Departure = no_departure
  held_no_fault Causality = no_causality
  held_no_fault Arrival = no_arrival
  held_no_fault Machines = no_machines
  held_no_fault Links = no_links
