-- What a plan with no fault says of its edges: each has a way with a start for each hop, and what it brings is there in time.
use Rattle.std.proofs.Common.{◌≡◌, ℕ, ◌<◌, ◌≤◌, ◌≢◌, List, [], ◌∷◌, length, Some, None, Option, sym, refl, ap, ◌∙◌, subst, ⊎_elim, arith}
use Rattle.std.proofs.lemmas.Bool.{cases_lt, cases_eq}
use Rattle.std.specs.List.{slice_get}
use Rattle.model.specs.Bookings.{end}
use Rattle.model.specs.Data.{JobData, NetData, station_count}
use Rattle.model.specs.Plans.{PlanData, task_row, starts, finish}
use Rattle.model.specs.declared.booking.Booking.{Booking}
use Rattle.model.specs.declared.job.Edge.{Edge}
use Rattle.model.specs.declared.plan.Placement.{Placement}
use Rattle.model.proofs.Firsts.{some≢none}
use Rattle.routes.specs.Laws.{RouteLaws}
use Rattle.routes.specs.Legs.{Ways, way, legs_on, legs, last}
use Rattle.routes.specs.declared.hop.Hop.{Hop}
use Rattle.marker.specs.Faults.{NoFault, no_route, other_count, same_machine, no_origin, no_goal, before_transfer, before_task}
use Rattle.marker.specs.declared.verdict.Rule.TheVariants.{Routed, Arrival}
use Rattle.certificate.proofs.Hops.{arrival}
use Rattle.certificate.proofs.Helds.{Ready}
use Rattle.certificate.proofs.EdgeLegs.{last_leg, all_legs, legs_by_way, same_machine_legs, way_no_origin, way_no_goal, way_same_machine, way_by_route}

empty_unless : (ss : List ℕ) → (ss ≢ [] → ⊥) → ss ≡ []
empty_unless [] h = refl
empty_unless (s ∷ ss) h = absurd (h (λ e. let z : length (s ∷ ss) ≡ 0 = ap length e in omega (arith, z)))

-- a route to another station has a hop
some_hop : (N : NetData) (ρ : Ways) → RouteLaws N ρ → (s t : ℕ) → s ≢ t → ρ s t ≢ Some []
some_hop N ρ law s t ne e = ⊎_elim from_known (λ h. some≢none (sym e ∙ law.unknown_origin s t h)) (cases_lt s (station_count N))
  where
    from_known : s < station_count N → ⊥
    from_known h = ⊎_elim (λ k. (law.each_pair s t h k).some_hop ne e) (λ k. some≢none (sym e ∙ law.unknown_goal s t k)) (cases_lt t (station_count N))

module _ (J : JobData) (N : NetData) (ρ : Ways) (Q : PlanData) (ok : NoFault J N ρ Q) where
  -- the edge has a way, and the transfer i a start for each hop of it
  abbrev pub Routed_on : ℕ → Edge → Type 0
  Routed_on i e = (hs : List Hop) × (way ρ Q e ≡ Some hs) × (length (starts Q i) ≡ length hs)

  pub routed_ways : (i : ℕ) (e : Edge) → slice_get J.edges i ≡ Some e → Routed_on i e
  routed_ways i e n = by_rows (task_row Q e.from) (task_row Q e.to) refl refl
    where
      no_hops : way ρ Q e ≡ Some [] → (starts Q i ≢ [] → ⊥) → Routed_on i e
      no_hops w h = ([], w, ap length (empty_unless (starts Q i) h))

      by_route : (p q : Placement) → task_row Q e.from ≡ Some p → task_row Q e.to ≡ Some q → p.station ≢ q.station → (o : Option (List Hop)) → ρ p.station q.station ≡ o → Routed_on i e
      by_route p q rp rq ne None r = absurd (ok Routed i 0 (no_route i e p q n rp rq ne r))
      by_route p q rp rq ne (Some hs) r = (
        hs,
        way_by_route ρ Q e p q rp rq ne ∙ r,
        ⊎_elim (λ h. h) (λ h. absurd (ok Routed i 0 (other_count i e p q hs n rp rq ne r h))) (cases_eq (length (starts Q i)) (length hs)),
      )

      by_rows : (a b : Option Placement) → task_row Q e.from ≡ a → task_row Q e.to ≡ b → Routed_on i e
      by_rows None b ra rb = no_hops (way_no_origin ρ Q e ra) (λ f. ok Routed i 0 (no_origin i e n ra f))
      by_rows (Some p) None ra rb = no_hops (way_no_goal ρ Q e rb) (λ f. ok Routed i 0 (no_goal i e n rb f))
      by_rows (Some p) (Some q) ra rb = ⊎_elim
          (λ s. no_hops (way_same_machine ρ Q e p q ra rb s) (λ f. ok Routed i 0 (same_machine i e p q n ra rb s f)))
          (λ ne. by_route p q ra rb ne (ρ p.station q.station) refl)
          (cases_eq p.station q.station)

  pub lawful_ready : RouteLaws N ρ → (t : ℕ) (q : Placement) → task_row Q t ≡ Some q → Ready J N ρ Q t q.start
  lawful_ready law t q rq i e p n to rp = ⊎_elim same apart (cases_eq p.station q.station)
    where
      rq' : task_row Q e.to ≡ Some q
      rq' = ap (λ u. task_row Q u) to ∙ rq

      same : p.station ≡ q.station → arrival (finish J N e.from p) (legs J N ρ Q i) ≤ q.start
      same s = ⊎_elim
          (λ l. absurd (ok Arrival i 0 (before_task i e p q n rp rq' s l)))
          (λ l. subst (λ bs. arrival (finish J N e.from p) bs ≤ q.start) (sym (same_machine_legs J N ρ Q i e p q n rp rq' s)) l)
          (cases_lt q.start (finish J N e.from p))

      some_leg : (bs : List Booking) → legs J N ρ Q i ≡ bs → 0 < length bs → arrival (finish J N e.from p) bs ≤ q.start
      some_leg [] is l = absurd (omega (arith, l))
      some_leg (b ∷ bs) is l =
          let z = last_leg (finish J N e.from p) b bs in
          ⊎_elim
          (λ m. absurd (ok Arrival i 0 (before_transfer i e q z.0 n rq' (subst (λ x. last x ≡ Some z.0) (sym is) z.1) m)))
          (λ m. subst (λ x. x ≤ q.start) (sym z.2) m)
          (cases_lt q.start (end z.0))

      long : (hs : List Hop) → ρ p.station q.station ≡ Some hs → p.station ≢ q.station → 0 < length hs
      long [] r ne = absurd (some_hop N ρ law p.station q.station ne r)
      long (h ∷ hs) r ne = omega arith

      apart : p.station ≢ q.station → arrival (finish J N e.from p) (legs J N ρ Q i) ≤ q.start
      apart ne =
          let w = routed_ways i e n in
          let some = long w.0 (sym (way_by_route ρ Q e p q rp rq' ne) ∙ w.1) ne in
          let are : legs J N ρ Q i ≡ legs_on N e.volume w.0 (starts Q i) = legs_by_way J N ρ Q i e w.0 n w.1 in
          some_leg (legs J N ρ Q i) refl (omega (arith, ap length are, all_legs N e.volume w.0 (starts Q i) w.2, some))
