-- Nothing in a plan that is held could begin earlier, so it is certified.
use Rattle.std.proofs.Common.{◌≡◌, ℕ, zero, suc, ◌<◌, ◌≤◌, true, ◌≢◌, List, [], ◌∷◌, length, Some, None, Option, sym, refl, ap, ◌∙◌, subst, ⊎_elim, arith}
use Rattle.std.proofs.lemmas.Bool.{both_ways, cases_lt, cases_eq}
use Rattle.std.proofs.lemmas.List.{nil_from_length}
use Rattle.std.proofs.lemmas.Option.{slice_get_past}
use Rattle.std.specs.List.{slice_get}
use Rattle.model.specs.Bookings.{end, collide, Share}
use Rattle.model.specs.Data.{JobData, NetData, machine_at, is_machine, task_length}
use Rattle.model.specs.Plans.{PlanData, task_row, starts, task_booking, finish}
use Rattle.model.specs.NetworkLimits.{NetworkLimits}
use Rattle.model.specs.declared.booking.Booking.{Booking}
use Rattle.model.specs.declared.job.Edge.{Edge}
use Rattle.model.specs.declared.plan.Placement.{Placement}
use Rattle.model.proofs.Firsts.{some≢none}
use Rattle.routes.specs.Legs.{Ways, way, legs_on, legs}
use Rattle.routes.specs.declared.hop.Hop.{Hop}
use Rattle.timetable.specs.Tables.{span}
use Rattle.planner.specs.Outcomes.{DrawState}
use Rattle.planner.specs.States.{Given}
use Rattle.planner.proofs.ListTests.{some_same}
use Rattle.marker.specs.Faults.{NoFault, too_soon, before_first, overtakes, two_tasks, two_transfers}
use Rattle.marker.specs.declared.verdict.Rule.TheVariants.{Departure, Causality, Machines, Links}
use Rattle.marker.proofs.Searches.{names_the_first}
use Rattle.certificate.specs.Certificate.{ButForTask, ButForTransfer, NoneEarlier, Certified}
use Rattle.certificate.proofs.Entries.{In, Owner, task, edge, Entry, own, hit_resource}
use Rattle.certificate.proofs.Hops.{arrival, Leaves}
use Rattle.certificate.proofs.Helds.{Ready, Held, EdgesHeld, TasksHeld, RowsHeld}
use Rattle.certificate.proofs.EdgeLegs.{in_nth, legs_resource, legs_by_way, way_no_origin, stands, ways_same, legs_same}
use Rattle.certificate.proofs.Lawfuls.{collide_share, held_no_fault}
use Rattle.certificate.proofs.Rivals.{routed_ways, lawful_ready}
use Rattle.certificate.proofs.Comparing.{InTurn, Unhindered, compare, none_earlier_empty}

machine_below : (N : NetData) → NetworkLimits N.stations N.links → (m : ℕ) → is_machine N m ≡ true → m < 16
machine_below N law m h = ⊎_elim (λ l. omega (arith, law.few_stations, l)) (λ l. absurd (both_ways _ (ap machine_at (slice_get_past N.stations m l)) h)) (cases_lt m (length N.stations))

past : {A : Type 0} (xs : List A) (i : ℕ) → slice_get xs i ≡ None → length xs ≤ i
past [] i e = omega arith
past (x ∷ xs) zero e = absurd (some≢none e)
past (x ∷ xs) (suc i) e = omega (arith, past xs i e)

swap_share : (s d s' d' : ℕ) → Share s d s' d' → Share s' d' s d
swap_share s d s' d' h = omega (arith, h)

module _ (J : JobData) (N : NetData) (ρ : Ways) (G : Given J N ρ) (S : DrawState) (H : Held J N ρ S) where
  abbrev P : PlanData
  P = S.plan

  abbrev L : List Entry
  L = H.ledger

  abbrev R : RowsHeld J N ρ S.plan
  R = H.rows

  abbrev Ta : TasksHeld J N ρ S.plan H.ledger
  Ta = H.tasks

  abbrev Ed : EdgesHeld J N ρ S.plan H.ledger
  Ed = H.edges

  held_task_first : (Q : PlanData) (t : ℕ) (p q : Placement) → NoFault J N ρ Q → ButForTask P Q t p q → p.start ≤ q.start
  held_task_first Q t p q ok d = ⊎_elim early (λ l. l) (cases_lt q.start p.start)
    where
      st : (u : ℕ) → stands (task_row Q u) ≡ stands (task_row P u)
      st u = ⊎_elim
          (λ e. subst (λ v. stands (task_row Q v) ≡ stands (task_row P v)) (sym e) (ap stands d.other ∙ ap Some d.station ∙ sym (ap stands d.drawn)))
          (λ n. ap stands (d.tasks u n))
          (cases_eq u t)

      ready_there : Ready J N ρ P t q.start
      ready_there i e p' n to r =
          let ne : e.from ≢ t = λ z. omega (arith, (G.job.each_rises i e n).0, z, to) in
          let w = lawful_ready J N ρ Q ok G.routes t q d.other i e p' n to (d.tasks e.from ne ∙ r) in
          subst (λ bs. arrival (finish J N e.from p') bs ≤ q.start) (legs_same N ρ P Q st J i (d.transfers i)) w

      hit : (x : Entry) → In x L → x.owner ≢ task t → collide x.booking (span p.station q.start (task_length J N t p.station)) ≡ true → (o : Owner) → x.owner ≡ o → ⊥
      hit x i n c (edge j) e =
          let y = Ed.in_edge j x.booking (subst (λ o. In (own o x.booking) L) e i) in
          omega (arith, legs_resource J N ρ P j x.booking y, hit_resource x.booking p.station q.start (task_length J N t p.station) c, machine_below N G.network p.station (R.machine t p d.drawn))
      hit x i n c (task u) e =
          let y = Ta.in_task u x.booking (subst (λ o. In (own o x.booking) L) e i) in
          let pu = y.0 in
          let ne : u ≢ t = λ z. n (e ∙ ap task z) in
          let ru : task_row Q u ≡ Some pu = d.tasks u ne ∙ y.1 in
          let len : task_length J N t p.station ≡ task_length J N t q.station = ap (λ s. task_length J N t s) (sym d.station) in
          let c' = subst (λ b. collide b (span p.station q.start (task_length J N t p.station)) ≡ true) y.2 c in
          let sh = collide_share (task_booking J N u pu) (span p.station q.start (task_length J N t p.station)) c' in
          let s : pu.station ≡ q.station = sh.0 ∙ sym d.station in
          let share : Share pu.start (task_length J N u pu.station) q.start (task_length J N t q.station) = subst (λ l. Share pu.start (task_length J N u pu.station) q.start l) len sh.1 in
          ⊎_elim
          (λ l. ok Machines u t (two_tasks u t pu q l ru d.other s share))
          (λ l. ok Machines t u (two_tasks t u q pu (omega (arith, l, ne)) d.other ru (sym s) (swap_share _ _ _ _ share)))
          (cases_lt u t)

      early : q.start < p.start → p.start ≤ q.start
      early l = let b = Ta.tight t p d.drawn q.start ready_there l in absurd (hit b.entry b.stands b.other b.hit b.entry.owner refl)

  -- transfer i of a plan that differs from it there alone
  module _ (Q : PlanData) (i : ℕ) (ok : NoFault J N ρ Q) (d : ButForTransfer S.plan Q i) where
    st : (u : ℕ) → stands (task_row Q u) ≡ stands (task_row P u)
    st u = ap stands (d.tasks u)

    unhindered : (b : Booking) → In b (legs J N ρ Q i) → (x : Entry) → In x L → x.owner ≢ edge i → collide x.booking b ≡ true → (o : Owner) → x.owner ≡ o → ⊥
    unhindered b h x s ne c (task u) is =
        let y = Ta.in_task u x.booking (subst (λ o. In (own o x.booking) L) is s) in
        let r : x.booking.resource ≡ y.0.station = ap (λ z. z.resource) y.2 in
        omega (arith, legs_resource J N ρ Q i b h, hit_resource x.booking b.resource b.start b.length c, r, machine_below N G.network y.0.station (R.machine u y.0 y.1))
    unhindered b h x s ne c (edge j) is =
        let y = Ed.in_edge j x.booking (subst (λ o. In (own o x.booking) L) is s) in
        let nj : j ≢ i = λ z. ne (is ∙ ap edge z) in
        let there = in_nth (legs J N ρ Q j) x.booking (subst (λ bs. In x.booking bs) (sym (legs_same N ρ P Q st J j (d.transfers j nj))) y) in
        let here = in_nth (legs J N ρ Q i) b h in
        let sh = collide_share x.booking b c in
        ⊎_elim
        (λ m. ok Links j i (two_transfers j i there.0 here.0 x.booking b m there.1 here.1 sh.0 sh.1))
        (λ m. ok Links i j (two_transfers i j here.0 there.0 b x.booking (omega (arith, m, nj)) here.1 there.1 (sym sh.0) (swap_share _ _ _ _ sh.1)))
        (cases_lt j i)

    in_turn : (e : Edge) (p : Placement) → slice_get J.edges i ≡ Some e → task_row Q e.from ≡ Some p → InTurn (finish J N e.from p) (legs J N ρ Q i)
    in_turn e p n r = record {
      departs = λ b h. ⊎_elim (λ m. absurd (ok Departure i 0 (too_soon i e p b n r h m))) (λ m. m) (cases_lt b.start (finish J N e.from p));
      after_first = λ j a b h g. ⊎_elim (λ m. absurd (ok Causality i (suc j) (before_first i j a b h g m))) (λ m. m) (cases_lt b.start a.start);
      no_overtaking = λ j a b h g. ⊎_elim (λ m. absurd (ok Causality i (suc j) (overtakes i j a b h g m))) (λ m. m) (cases_lt (end b) (end a));
    }

    of_edge : (e : Edge) → slice_get J.edges i ≡ Some e → NoneEarlier (starts P i) (starts Q i)
    of_edge e n = by_origin (task_row P e.from) refl
      where
        w : (hs : List Hop) × (way ρ P e ≡ Some hs) × (length (starts P i) ≡ length hs)
        w = R.ways i e n

        z : (hs : List Hop) × (way ρ Q e ≡ Some hs) × (length (starts Q i) ≡ length hs)
        z = routed_ways J N ρ Q ok i e n

        hops : z.0 ≡ w.0
        hops = some_same _ _ (sym z.1 ∙ ways_same N ρ P Q st e ∙ w.1)

        drawn : legs J N ρ P i ≡ legs_on N e.volume w.0 (starts P i)
        drawn = legs_by_way J N ρ P i e w.0 n w.1

        other : legs J N ρ Q i ≡ legs_on N e.volume w.0 (starts Q i)
        other = legs_by_way J N ρ Q i e w.0 n (ways_same N ρ P Q st e ∙ w.1)

        by_origin : (o : Option Placement) → task_row P e.from ≡ o → NoneEarlier (starts P i) (starts Q i)
        by_origin None r =
            let none : [] ≡ w.0 = some_same _ _ (sym (way_no_origin ρ P e r) ∙ w.1) in
            none_earlier_empty (starts P i) (starts Q i) (nil_from_length (starts P i) (w.2 ∙ ap length (sym none)))
        by_origin (Some p) r =
            compare N e.volume L (edge i) w.0 (starts P i) (starts Q i) (finish J N e.from p)
            (subst (λ bs. Leaves L (edge i) (finish J N e.from p) bs) drawn (Ed.leaves i e p n r))
            (subst (λ bs. InTurn (finish J N e.from p) bs) other (in_turn e p n (d.tasks e.from ∙ r)))
            (subst (λ bs. Unhindered N e.volume L (edge i) bs) other (λ b h y. unhindered b h y.entry y.stands y.other y.hit y.entry.owner refl))
            w.2 (z.2 ∙ ap length hops)

    held_transfer_first : NoneEarlier (starts P i) (starts Q i)
    held_transfer_first = by_edge (slice_get J.edges i) refl
      where
        by_edge : (o : Option Edge) → slice_get J.edges i ≡ o → NoneEarlier (starts P i) (starts Q i)
        by_edge (Some e) n = of_edge e n
        by_edge None n = none_earlier_empty (starts P i) (starts Q i) (R.empty i (past J.edges i n))

pub held_certified : (J : JobData) (N : NetData) (ρ : Ways) → Given J N ρ → (S : DrawState) → Held J N ρ S → Certified J N ρ S.plan
held_certified J N ρ G S H = record {
  lawful = (names_the_first J N ρ S.plan).lawful_exactly.1 (held_no_fault J N ρ S H);
  task_first = λ Q t p q ok d. held_task_first J N ρ G S H Q t p q ((names_the_first J N ρ Q).lawful_exactly.0 ok) d;
  transfer_first = λ Q i ok d. held_transfer_first J N ρ G S H Q i ((names_the_first J N ρ Q).lawful_exactly.0 ok) d;
}
