-- Each rule's test finds its faults and nothing else, and every fault lies below the bounds of the search.
use Rattle.std.proofs.Common.{◌≡◌, ℕ, zero, suc, ◌+◌, ◌<◌, ◌≤◌, Bool, true, false, cond, not, ◌&&◌, eqb, ltb, ◌≢◌, List, [], ◌∷◌, length, get_or, Some, None, Option, sym, refl, ap, ◌∙◌, inl, inr, ⊎_elim, arith}
use Rattle.std.proofs.lemmas.Bool.{true≢false, cond-true, cond-false, not-true, not_from_false, and_parts, and_from, or_cases, or_left, or_right, leb-true, ltb-true, eqb-true, eqb-false, le-leb, lt-ltb, eq-eqb, ne_eqb}
use Rattle.std.specs.Option.{option_map}
use Rattle.std.specs.List.{slice_get}
use Rattle.model.specs.Bookings.{end}
use Rattle.model.specs.Data.{JobData, NetData}
use Rattle.model.specs.Plans.{PlanData, task_row, starts, finish}
use Rattle.model.specs.declared.booking.Booking.{Booking}
use Rattle.model.specs.declared.job.Edge.{Edge}
use Rattle.model.specs.declared.plan.Placement.{Placement}
use Rattle.model.proofs.Firsts.{some≢none}
use Rattle.routes.specs.Legs.{Ways, way_between, way, legs_on, legs_along, legs_at, legs, last}
use Rattle.routes.specs.declared.hop.Hop.{Hop}
use Rattle.marker.specs.Faults.{Fault, no_task, no_machine, no_edge, unplaced, no_route, other_count, same_machine, no_origin, no_goal, late_task, late_transfer, too_soon, before_first, overtakes, before_transfer, before_task, two_tasks, two_transfers}
use Rattle.marker.specs.Verdicts.{some_is, filled, misfit, test, firsts, seconds}
use Rattle.marker.specs.declared.verdict.Rule.{Rule}
use Rattle.marker.specs.declared.verdict.Rule.TheVariants.{Rows, Predecessors, Routed, WithinLimit, Departure, Causality, Arrival, Machines, Links}
use Rattle.marker.proofs.Parts.{some_parts, some_from, any_parts, any_from, nth_below}

placed_below : (ps : List (Option Placement)) (t : ℕ) (p : Placement) → get_or ps t None ≡ Some p → t < length ps
placed_below [] t p e = absurd (some≢none (sym e))
placed_below (q ∷ ps) zero p e = omega arith
placed_below (q ∷ ps) (suc t) p e = omega (arith, placed_below ps t p e)

starts_below : (rs : List (List ℕ)) (i : ℕ) → get_or rs i [] ≢ [] → i < length rs
starts_below [] i e = absurd (e refl)
starts_below (r ∷ rs) zero e = omega arith
starts_below (r ∷ rs) (suc i) e = omega (arith, starts_below rs i e)

legs_few : (N : NetData) (v : ℕ) (hs : List Hop) (ss : List ℕ) → length (legs_on N v hs ss) ≤ length ss
legs_few N v [] ss = omega arith
legs_few N v (h ∷ hs) [] = omega arith
legs_few N v (h ∷ hs) (s ∷ ss) = omega (arith, legs_few N v hs ss)

leg_below : (N : NetData) (v : ℕ) (w : Option (List Hop)) (ss : List ℕ) (k : ℕ) (b : Booking) → slice_get (legs_along N v w ss) k ≡ Some b → k < length ss
leg_below N v None ss k b e = absurd (some≢none (sym e))
leg_below N v (Some hs) ss k b e = omega (arith, nth_below (legs_on N v hs ss) k b e, legs_few N v hs ss)

leg_known : (N : NetData) (ρ : Ways) (P : PlanData) (i : ℕ) (o : Option Edge) (k : ℕ) (b : Booking) → slice_get (legs_at N ρ P i o) k ≡ Some b → (e : Edge) × (o ≡ Some e) × (k < length (starts P i))
leg_known N ρ P i None k b h = absurd (some≢none (sym h))
leg_known N ρ P i (Some e) k b h = (e, refl, leg_below N e.volume (way ρ P e) (starts P i) k b h)

filled_parts : (ss : List ℕ) → filled ss ≡ true → ss ≢ []
filled_parts ss h e = true≢false (sym h ∙ ap filled e)

filled_from : (ss : List ℕ) → ss ≢ [] → filled ss ≡ true
filled_from [] h = absurd (h refl)
filled_from (s ∷ ss) h = refl

none_parts : {A : Type 0} (o : Option A) → not (some_is o (λ x. true)) ≡ true → o ≡ None
none_parts None h = refl
none_parts (Some x) h = absurd (true≢false (sym h))

none_from : {A : Type 0} (o : Option A) → o ≡ None → not (some_is o (λ x. true)) ≡ true
none_from o e = ap (λ u. not (some_is u (λ x. true))) e

-- a rule's test and bounds are right
pub record Fits (J : JobData) (N : NetData) (ρ : Ways) (P : PlanData) (r : Rule) : Type 0 where
  pub sound : (x y : ℕ) → y < seconds J N ρ P r x → test J N ρ P r x y ≡ true → Fault J N ρ P r x y
  pub complete : (x y : ℕ) → Fault J N ρ P r x y → test J N ρ P r x y ≡ true
  pub below : (x y : ℕ) → Fault J N ρ P r x y → (x < firsts J N ρ P r) × (y < seconds J N ρ P r x)

module _ (J : JobData) (N : NetData) (ρ : Ways) (P : PlanData) where
  -- a transfer with a booking is of an edge, and has a start for it
  pub leg_of_edge : (i k : ℕ) (b : Booking) → slice_get (legs J N ρ P i) k ≡ Some b → (i < length J.edges) × (k < length (starts P i))
  leg_of_edge i k b h = let a = leg_known N ρ P i (slice_get J.edges i) k b h in (nth_below J.edges i a.0 a.1, a.2)

  rows_sound : (x y : ℕ) → test J N ρ P Rows x y ≡ true → Fault J N ρ P Rows x y
  rows_sound zero t h =
      let s = some_parts (task_row P t) _ h in
      ⊎_elim (λ l. no_task t s.0 s.1 (leb-true _ _ l)) (λ l. no_machine t s.0 s.1 (not-true _ l)) (or_cases _ _ s.2)
  rows_sound (suc zero) i h = let s = and_parts _ _ h in no_edge i (filled_parts (starts P i) s.0) (leb-true _ _ s.1)
  rows_sound (suc (suc x)) y h = absurd (true≢false (sym h))

  rows_complete : (x y : ℕ) → Fault J N ρ P Rows x y → test J N ρ P Rows x y ≡ true
  rows_complete x y (no_task t p e l) = some_from (task_row P t) _ p e (or_left _ _ (le-leb _ _ l))
  rows_complete x y (no_machine t p e l) = some_from (task_row P t) _ p e (or_right _ _ (not_from_false _ l))
  rows_complete x y (no_edge i e l) = and_from _ _ (filled_from (starts P i) e) (le-leb _ _ l)

  rows_below : (x y : ℕ) → Fault J N ρ P Rows x y → (x < 2) × (y < length P.tasks + length P.transfers)
  rows_below x y (no_task t p e l) = (omega arith, omega (arith, placed_below P.tasks t p e))
  rows_below x y (no_machine t p e l) = (omega arith, omega (arith, placed_below P.tasks t p e))
  rows_below x y (no_edge i e l) = (omega arith, omega (arith, starts_below P.transfers i e))

  rows_fit : Fits J N ρ P Rows
  rows_fit = record { sound = λ x y _ h. rows_sound x y h; complete = rows_complete; below = rows_below }

  predecessors_sound : (x y : ℕ) → y < 1 → test J N ρ P Predecessors x y ≡ true → Fault J N ρ P Predecessors x y
  predecessors_sound i zero l h =
      let a = some_parts (slice_get J.edges i) _ h in
      let b = some_parts (task_row P a.0.to) _ a.2 in
      unplaced i a.0 b.0 a.1 b.1 (none_parts (task_row P a.0.from) b.2)
  predecessors_sound i (suc y) l h = absurd (omega arith)

  predecessors_complete : (x y : ℕ) → Fault J N ρ P Predecessors x y → test J N ρ P Predecessors x y ≡ true
  predecessors_complete x y (unplaced i e q a b c) = some_from (slice_get J.edges i) _ e a (some_from (task_row P e.to) _ q b (none_from (task_row P e.from) c))

  predecessors_below : (x y : ℕ) → Fault J N ρ P Predecessors x y → (x < length J.edges) × (y < 1)
  predecessors_below x y (unplaced i e q a b c) = (nth_below J.edges i e a, omega arith)

  predecessors_fit : Fits J N ρ P Predecessors
  predecessors_fit = record { sound = predecessors_sound; complete = predecessors_complete; below = predecessors_below }

  filled_length : (i : ℕ) → not (eqb (length (starts P i)) 0) ≡ true → starts P i ≢ []
  filled_length i h e = eqb-false _ _ (not-true _ h) (ap length e)

  length_filled : (ss : List ℕ) → ss ≢ [] → not (eqb (length ss) 0) ≡ true
  length_filled [] h = absurd (h refl)
  length_filled (s ∷ ss) h = not_from_false _ (ne_eqb (length (s ∷ ss)) 0 (λ e. omega arith))

  -- the edge is misfit for its starts, by the rows of its two tasks
  abbrev unfit : ℕ → Option (List Hop) → Bool
  unfit i w = misfit (option_map length w) (length (starts P i))

  routed_between : (i : ℕ) (e : Edge) → slice_get J.edges i ≡ Some e → (p q : Placement) → task_row P e.from ≡ Some p → task_row P e.to ≡ Some q → (b : Bool) → eqb p.station q.station ≡ b → (w : Option (List Hop)) → ρ p.station q.station ≡ w → unfit i (cond b (Some []) w) ≡ true → Fault J N ρ P Routed i 0
  routed_between i e at p q a c true m w r h = same_machine i e p q at a c (eqb-true _ _ m) (filled_length i h)
  routed_between i e at p q a c false m None r h = no_route i e p q at a c (eqb-false _ _ m) r
  routed_between i e at p q a c false m (Some hs) r h = other_count i e p q hs at a c (eqb-false _ _ m) r (eqb-false _ _ (not-true _ h))

  routed_rows : (i : ℕ) (e : Edge) → slice_get J.edges i ≡ Some e → (o u : Option Placement) → task_row P e.from ≡ o → task_row P e.to ≡ u → unfit i (way_between ρ o u) ≡ true → Fault J N ρ P Routed i 0
  routed_rows i e at None u a c h = no_origin i e at a (filled_length i h)
  routed_rows i e at (Some p) None a c h = no_goal i e at c (filled_length i h)
  routed_rows i e at (Some p) (Some q) a c h = routed_between i e at p q a c (eqb p.station q.station) refl (ρ p.station q.station) refl h

  routed_sound : (x y : ℕ) → y < 1 → test J N ρ P Routed x y ≡ true → Fault J N ρ P Routed x y
  routed_sound i zero l h = let a = some_parts (slice_get J.edges i) _ h in routed_rows i a.0 a.1 (task_row P a.0.from) (task_row P a.0.to) refl refl a.2
  routed_sound i (suc y) l h = absurd (omega arith)

  -- the way of an edge by the rows of its tasks
  way_apart : (e : Edge) (p q : Placement) → task_row P e.from ≡ Some p → task_row P e.to ≡ Some q → p.station ≢ q.station → way ρ P e ≡ ρ p.station q.station
  way_apart e p q a c m = ap (λ o. way_between ρ o (task_row P e.to)) a ∙ ap (way_between ρ (Some p)) c ∙ cond-false _ _ _ (ne_eqb _ _ m)

  way_same : (e : Edge) (p q : Placement) → task_row P e.from ≡ Some p → task_row P e.to ≡ Some q → p.station ≡ q.station → way ρ P e ≡ Some []
  way_same e p q a c m = ap (λ o. way_between ρ o (task_row P e.to)) a ∙ ap (way_between ρ (Some p)) c ∙ cond-true _ _ _ (eq-eqb _ _ m)

  way_no_goal : (o u : Option Placement) → u ≡ None → way_between ρ o u ≡ Some []
  way_no_goal None u e = refl
  way_no_goal (Some p) u e = ap (way_between ρ (Some p)) e

  routed_complete : (x y : ℕ) → Fault J N ρ P Routed x y → test J N ρ P Routed x y ≡ true
  routed_complete x y (no_route i e p q at a c m r) = some_from (slice_get J.edges i) _ e at (ap (unfit i) (way_apart e p q a c m ∙ r))
  routed_complete x y (other_count i e p q hs at a c m r n) = some_from (slice_get J.edges i) _ e at (ap (unfit i) (way_apart e p q a c m ∙ r) ∙ not_from_false _ (ne_eqb _ _ n))
  routed_complete x y (same_machine i e p q at a c m n) = some_from (slice_get J.edges i) _ e at (ap (unfit i) (way_same e p q a c m) ∙ length_filled (starts P i) n)
  routed_complete x y (no_origin i e at a n) = some_from (slice_get J.edges i) _ e at (ap (unfit i) (ap (λ o. way_between ρ o (task_row P e.to)) a) ∙ length_filled (starts P i) n)
  routed_complete x y (no_goal i e at c n) = some_from (slice_get J.edges i) _ e at (ap (unfit i) (way_no_goal (task_row P e.from) (task_row P e.to) c) ∙ length_filled (starts P i) n)

  routed_below : (x y : ℕ) → Fault J N ρ P Routed x y → (x < length J.edges) × (y < 1)
  routed_below x y (no_route i e p q at a c m r) = (nth_below J.edges i e at, omega arith)
  routed_below x y (other_count i e p q hs at a c m r n) = (nth_below J.edges i e at, omega arith)
  routed_below x y (same_machine i e p q at a c m n) = (nth_below J.edges i e at, omega arith)
  routed_below x y (no_origin i e at a n) = (nth_below J.edges i e at, omega arith)
  routed_below x y (no_goal i e at c n) = (nth_below J.edges i e at, omega arith)

  routed_fit : Fits J N ρ P Routed
  routed_fit = record { sound = routed_sound; complete = routed_complete; below = routed_below }

  limit_sound : (x y : ℕ) → test J N ρ P WithinLimit x y ≡ true → Fault J N ρ P WithinLimit x y
  limit_sound zero t h = let s = some_parts (task_row P t) _ h in late_task t s.0 s.1 (ltb-true _ _ s.2)
  limit_sound (suc zero) i h = let b = any_parts (legs J N ρ P i) _ h in late_transfer i b.0 b.1 b.2 (ltb-true _ _ b.3)
  limit_sound (suc (suc x)) y h = absurd (true≢false (sym h))

  limit_complete : (x y : ℕ) → Fault J N ρ P WithinLimit x y → test J N ρ P WithinLimit x y ≡ true
  limit_complete x y (late_task t p e l) = some_from (task_row P t) _ p e (lt-ltb _ _ l)
  limit_complete x y (late_transfer i k b c l) = any_from (legs J N ρ P i) _ k b c (lt-ltb _ _ l)

  limit_below : (x y : ℕ) → Fault J N ρ P WithinLimit x y → (x < 2) × (y < length P.tasks + length J.edges)
  limit_below x y (late_task t p e l) = (omega arith, omega (arith, placed_below P.tasks t p e))
  limit_below x y (late_transfer i k b c l) = (omega arith, omega (arith, (leg_of_edge i k b c).0))

  limit_fit : Fits J N ρ P WithinLimit
  limit_fit = record { sound = λ x y _ h. limit_sound x y h; complete = limit_complete; below = limit_below }

  departure_sound : (x y : ℕ) → y < 1 → test J N ρ P Departure x y ≡ true → Fault J N ρ P Departure x y
  departure_sound i zero l h =
      let a = some_parts (slice_get J.edges i) _ h in
      let b = some_parts (task_row P a.0.from) _ a.2 in
      let c = some_parts (slice_get (legs J N ρ P i) 0) _ b.2 in
      too_soon i a.0 b.0 c.0 a.1 b.1 c.1 (ltb-true _ _ c.2)
  departure_sound i (suc y) l h = absurd (omega arith)

  departure_complete : (x y : ℕ) → Fault J N ρ P Departure x y → test J N ρ P Departure x y ≡ true
  departure_complete x y (too_soon i e p b a c d l) =
      some_from (slice_get J.edges i) _ e a (some_from (task_row P e.from) _ p c (some_from (slice_get (legs J N ρ P i) 0) _ b d (lt-ltb _ _ l)))

  departure_below : (x y : ℕ) → Fault J N ρ P Departure x y → (x < length J.edges) × (y < 1)
  departure_below x y (too_soon i e p b a c d l) = (nth_below J.edges i e a, omega arith)

  departure_fit : Fits J N ρ P Departure
  departure_fit = record { sound = departure_sound; complete = departure_complete; below = departure_below }

  causality_sound : (x y : ℕ) → test J N ρ P Causality x y ≡ true → Fault J N ρ P Causality x y
  causality_sound i zero h = absurd (true≢false (sym h))
  causality_sound i (suc k) h =
      let bs = legs J N ρ P i in
      let b = some_parts (slice_get bs (suc k)) _ h in
      elim (or_cases _ _ b.2) [
        | inl l ↦ (let c = some_parts (slice_get bs 0) (λ z. ltb b.0.start z.start) l in before_first i k c.0 b.0 c.1 b.1 (ltb-true _ _ c.2))
        | inr l ↦ (let c = some_parts (slice_get bs k) (λ z. ltb (end b.0) (end z)) l in overtakes i k c.0 b.0 c.1 b.1 (ltb-true _ _ c.2))
      ]

  causality_complete : (x y : ℕ) → Fault J N ρ P Causality x y → test J N ρ P Causality x y ≡ true
  causality_complete x y (before_first i k a b d f l) =
      some_from (slice_get (legs J N ρ P i) (suc k)) _ b f (or_left _ _ (some_from (slice_get (legs J N ρ P i) 0) _ a d (lt-ltb _ _ l)))
  causality_complete x y (overtakes i k a b d f l) =
      some_from (slice_get (legs J N ρ P i) (suc k)) _ b f (or_right _ _ (some_from (slice_get (legs J N ρ P i) k) _ a d (lt-ltb _ _ l)))

  causality_below : (x y : ℕ) → Fault J N ρ P Causality x y → (x < length J.edges) × (y < length (starts P x))
  causality_below x y (before_first i k a b d f l) = leg_of_edge i (suc k) b f
  causality_below x y (overtakes i k a b d f l) = leg_of_edge i (suc k) b f

  causality_fit : Fits J N ρ P Causality
  causality_fit = record { sound = λ x y _ h. causality_sound x y h; complete = causality_complete; below = causality_below }

  arrival_sound : (x y : ℕ) → y < 1 → test J N ρ P Arrival x y ≡ true → Fault J N ρ P Arrival x y
  arrival_sound i zero l h =
      let a = some_parts (slice_get J.edges i) _ h in
      let bs = legs J N ρ P i in
      let q = some_parts (task_row P a.0.to) _ a.2 in
      elim (or_cases _ _ q.2) [
        | inl k ↦ (let b = some_parts (last bs) (λ z. ltb q.0.start (end z)) k in before_transfer i a.0 q.0 b.0 a.1 q.1 b.1 (ltb-true _ _ b.2))
        | inr k ↦ (let p = some_parts (task_row P a.0.from) (λ z. eqb z.station q.0.station && ltb q.0.start (finish J N a.0.from z)) k in let m = and_parts _ _ p.2 in
            before_task i a.0 p.0 q.0 a.1 p.1 q.1 (eqb-true _ _ m.0) (ltb-true _ _ m.1))
      ]
  arrival_sound i (suc y) l h = absurd (omega arith)

  arrival_complete : (x y : ℕ) → Fault J N ρ P Arrival x y → test J N ρ P Arrival x y ≡ true
  arrival_complete x y (before_transfer i e q b a c d l) =
      some_from (slice_get J.edges i) _ e a (some_from (task_row P e.to) _ q c (or_left _ _ (some_from (last (legs J N ρ P i)) _ b d (lt-ltb _ _ l))))
  arrival_complete x y (before_task i e p q a b c m l) =
      some_from (slice_get J.edges i) _ e a (some_from (task_row P e.to) _ q c (or_right _ _ (some_from (task_row P e.from) _ p b (and_from _ _ (eq-eqb _ _ m) (lt-ltb _ _ l)))))

  arrival_below : (x y : ℕ) → Fault J N ρ P Arrival x y → (x < length J.edges) × (y < 1)
  arrival_below x y (before_transfer i e q b a c d l) = (nth_below J.edges i e a, omega arith)
  arrival_below x y (before_task i e p q a b c m l) = (nth_below J.edges i e a, omega arith)

  arrival_fit : Fits J N ρ P Arrival
  arrival_fit = record { sound = arrival_sound; complete = arrival_complete; below = arrival_below }

  machines_sound : (x y : ℕ) → test J N ρ P Machines x y ≡ true → Fault J N ρ P Machines x y
  machines_sound t u h =
      let p = some_parts (task_row P t) _ h in
      let q = some_parts (task_row P u) _ p.2 in
      let a = and_parts _ _ q.2 in
      let b = and_parts _ _ a.1 in
      two_tasks t u p.0 q.0 (ltb-true _ _ a.0) p.1 q.1 (eqb-true _ _ b.0) (ltb-true _ _ b.1)

  machines_complete : (x y : ℕ) → Fault J N ρ P Machines x y → test J N ρ P Machines x y ≡ true
  machines_complete x y (two_tasks t u p q l a b m s) =
      some_from (task_row P t) _ p a (some_from (task_row P u) _ q b (and_from _ _ (lt-ltb _ _ l) (and_from _ _ (eq-eqb _ _ m) (lt-ltb _ _ s))))

  machines_below : (x y : ℕ) → Fault J N ρ P Machines x y → (x < length P.tasks) × (y < length P.tasks)
  machines_below x y (two_tasks t u p q l a b m s) = (placed_below P.tasks t p a, placed_below P.tasks u q b)

  machines_fit : Fits J N ρ P Machines
  machines_fit = record { sound = λ x y _ h. machines_sound x y h; complete = machines_complete; below = machines_below }

  links_sound : (x y : ℕ) → test J N ρ P Links x y ≡ true → Fault J N ρ P Links x y
  links_sound i j h =
      let l = and_parts _ _ h in
      let a = any_parts (legs J N ρ P i) _ l.1 in
      let b = any_parts (legs J N ρ P j) _ a.3 in
      let m = and_parts _ _ b.3 in
      two_transfers i j a.0 b.0 a.1 b.1 (ltb-true _ _ l.0) a.2 b.2 (eqb-true _ _ m.0) (ltb-true _ _ m.1)

  links_complete : (x y : ℕ) → Fault J N ρ P Links x y → test J N ρ P Links x y ≡ true
  links_complete x y (two_transfers i j k l a b o ak bl m s) =
      and_from _ _ (lt-ltb _ _ o) (any_from (legs J N ρ P i) _ k a ak (any_from (legs J N ρ P j) _ l b bl (and_from _ _ (eq-eqb _ _ m) (lt-ltb _ _ s))))

  links_below : (x y : ℕ) → Fault J N ρ P Links x y → (x < length J.edges) × (y < length J.edges)
  links_below x y (two_transfers i j k l a b o ak bl m s) = ((leg_of_edge i k a ak).0, (leg_of_edge j l b bl).0)

  links_fit : Fits J N ρ P Links
  links_fit = record { sound = λ x y _ h. links_sound x y h; complete = links_complete; below = links_below }

  -- every rule's test and bounds are right
  pub fits : (r : Rule) → Fits J N ρ P r
  fits Rows = rows_fit
  fits Predecessors = predecessors_fit
  fits Routed = routed_fit
  fits WithinLimit = limit_fit
  fits Departure = departure_fit
  fits Causality = causality_fit
  fits Arrival = arrival_fit
  fits Machines = machines_fit
  fits Links = links_fit
