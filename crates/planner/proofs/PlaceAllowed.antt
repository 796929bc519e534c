-- What is known of a task and a machine where no refusal comes before the questions.
use Rattle.std.proofs.Common.{◌≡◌, ℕ, ◌<◌, Bool, true, false, cond, not, List, [], ◌∷◌, map, filter, is_some, is_none, None, Some, Option, refl, subst, ⊎_elim}
use Rattle.std.specs.Bool.{then_some, nat_lt}
use Rattle.std.specs.List.{slice_get, find}
use Rattle.std.specs.Option.{option_map}
use Rattle.std.proofs.lemmas.Bool.{ltb-true}
use Rattle.model.specs.Data.{JobData, NetData, task_count, is_machine}
use Rattle.model.specs.Plans.{PlanData, task_row}
use Rattle.model.specs.Refusals.{or_else}
use Rattle.model.specs.declared.job.Edge.{Edge}
use Rattle.model.specs.declared.plan.Placement.{Placement}
use Rattle.model.specs.declared.refusal.Refusal.{Refusal}
use Rattle.model.specs.declared.refusal.Refusal.TheVariants.{NoSuchTask, NotAMachine, AlreadyPlaced, PredecessorUnplaced, NoRoute, NoRoom}
use Rattle.routes.specs.Legs.{Ways}
use Rattle.routes.specs.declared.hop.Hop.{Hop}
use Rattle.timetable.specs.Earliest.{least}
use Rattle.planner.specs.Edges.{incoming, is_placed, way_to}
use Rattle.planner.specs.OrderInWords.{IsPlaced}
use Rattle.planner.specs.Outcomes.{DrawState}
use Rattle.planner.specs.Placing.{unplaced_predecessor, edge_without_route, bookings_needed, room, place_refusal}
use Rattle.planner.proofs.IncomingEdges.{Among, incoming_pass}
use Rattle.planner.proofs.Ordered.{placed_read}

-- task t of the job is not placed, m is a machine, each predecessor is placed, and each edge into t has hops to m
pub record Allowed (J : JobData) (N : NetData) (ρ : Ways) (P : PlanData) (t m : ℕ) : Type 0 where
  pub known : t < task_count J
  pub machine : is_machine N m ≡ true
  pub blank : task_row P t ≡ None
  pub placed : (i : ℕ) (e : Edge) → slice_get J.edges i ≡ Some e → e.to ≡ t → IsPlaced P e.from
  pub routed : (i : ℕ) (e : Edge) → slice_get J.edges i ≡ Some e → e.to ≡ t → (hops : List Hop) × (way_to ρ P m e ≡ Some hops)

none_of_both : {E : Type 0} (a b : Option E) → or_else a b ≡ None → (a ≡ None) × (b ≡ None)
none_of_both None b e = (refl, e)
none_of_both (Some x) b e = cc e

then_none : {X : Type 0} (b : Bool) (x : X) → then_some b x ≡ None → b ≡ false
then_none true x e = cc e
then_none false x e = refl

map_none : {X Y : Type 0} (f : X → Y) (o : Option X) → option_map f o ≡ None → o ≡ None
map_none f None e = refl
map_none f (Some x) e = cc e

not_false : (b : Bool) → not b ≡ false → b ≡ true
not_false true e = refl
not_false false e = cc e

row_none : (o : Option Placement) → is_some o ≡ false → o ≡ None
row_none None e = refl
row_none (Some p) e = cc e

-- none passes a test of which no element is left, or that finds none

least_none : (xs : List ℕ) → least xs ≡ None → xs ≡ []
least_none [] e = refl
least_none (x ∷ xs) e = cc e

none_left : {X : Type 0} (p : ℕ → Bool) (f : X → ℕ) (xs : List X) → filter p (map f xs) ≡ [] → (x : X) → Among x xs → p (f x) ≡ false
none_left p f [] e x at = absurd at
none_left p f (y ∷ ys) e x at = step (λ rest. none_left p f ys rest x) (p (f y)) refl e at
  where
    step : (filter p (map f ys) ≡ [] → Among x ys → p (f x) ≡ false) → (b : Bool) → p (f y) ≡ b → cond b (f y ∷ filter p (map f ys)) (filter p (map f ys)) ≡ [] → Among x (y ∷ ys) → p (f x) ≡ false
    step rest true is e at = cc e
    step rest false is e at = ⊎_elim (λ same. subst (λ z. p (f z) ≡ false) same is) (λ later. rest e later) at

none_found : {X : Type 0} (p : X → Bool) (xs : List X) → find p xs ≡ None → (x : X) → Among x xs → p x ≡ false
none_found p [] e x at = absurd at
none_found p (y ∷ ys) e x at = step (λ rest. none_found p ys rest x) (p y) refl e at
  where
    step : (find p ys ≡ None → Among x ys → p x ≡ false) → (b : Bool) → p y ≡ b → cond b (Some y) (find p ys) ≡ None → Among x (y ∷ ys) → p x ≡ false
    step rest true is e at = cc e
    step rest false is e at = ⊎_elim (λ same. subst (λ z. p z ≡ false) same is) (λ later. rest e later) at

hops_read : (w : Option (List Hop)) → is_none w ≡ false → (hops : List Hop) × (w ≡ Some hops)
hops_read None e = cc e
hops_read (Some hops) e = (hops, refl)

module _ (J : JobData) (N : NetData) (ρ : Ways) (S : DrawState) (t m : ℕ) where
  abbrev no_room : Option Refusal
  no_room = then_some (nat_lt (room S.table) (bookings_needed J ρ S.plan t m)) (NoRoom (bookings_needed J ρ S.plan t m))

  abbrev unplaced : Option Refusal
  unplaced = option_map PredecessorUnplaced (unplaced_predecessor J S.plan t)

  abbrev unrouted : Option Refusal
  unrouted = option_map NoRoute (edge_without_route J ρ S.plan t m)

  pub allowed : place_refusal J N ρ S t m ≡ None → Allowed J N ρ S.plan t m
  unfolding place_refusal
  allowed e =
      let known = none_of_both (then_some (not (nat_lt t (task_count J))) (NoSuchTask t)) _ e in
      let machine = none_of_both (then_some (not (is_machine N m)) (NotAMachine m)) _ known.1 in
      let blank = none_of_both (then_some (is_placed S.plan t) (AlreadyPlaced t)) _ machine.1 in
      let placed = none_of_both unplaced (or_else unrouted (or_else no_room None)) blank.1 in
      let routed = none_of_both unrouted (or_else no_room None) placed.1 in
      let each_placed = least_none _ (map_none PredecessorUnplaced (unplaced_predecessor J S.plan t) placed.0) in
      let each_routed = map_none (λ (i, d). i) (find (λ (i, d). is_none (way_to ρ S.plan m d)) (incoming J t)) (map_none NoRoute (edge_without_route J ρ S.plan t m) routed.0) in
      record {
        known = ltb-true t (task_count J) (not_false _ (then_none _ _ known.0));
        machine = not_false _ (then_none _ _ machine.0);
        blank = row_none _ (then_none _ _ blank.0);
        placed = λ i edge at goal. placed_read S.plan edge.from (not_false _ (none_left (λ u. not (is_placed S.plan u)) (λ (j, d). d.from) (incoming J t) each_placed (i, edge) (incoming_pass J t i edge at goal)));
        routed = λ i edge at goal. hops_read (way_to ρ S.plan m edge) (none_found (λ (j, d). is_none (way_to ρ S.plan m d)) (incoming J t) each_routed (i, edge) (incoming_pass J t i edge at goal));
      }
