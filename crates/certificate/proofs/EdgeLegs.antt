-- The legs of an edge: of which edge they are, by which way, and what they depend on.
use Rattle.std.proofs.Common.{◌≡◌, ℕ, zero, suc, ◌-◌, ◌≤◌, cond, eqb, List, [], ◌∷◌, length, Some, None, Option, sym, refl, ap, ◌∙◌, subst, inl, inr, arith}
use Rattle.std.proofs.lemmas.Bool.{cond-true, cond-false, eq-eqb, ne_eqb}
use Rattle.std.specs.List.{slice_get}
use Rattle.model.specs.Bookings.{end}
use Rattle.model.specs.Data.{JobData, NetData}
use Rattle.model.specs.Plans.{PlanData, task_row, starts}
use Rattle.model.specs.declared.booking.Booking.{Booking}
use Rattle.model.specs.declared.job.Edge.{Edge}
use Rattle.model.specs.declared.plan.Placement.{Placement}
use Rattle.model.proofs.Firsts.{some≢none}
use Rattle.routes.specs.Legs.{Ways, way_between, way, legs_on, legs_along, legs_at, legs, last}
use Rattle.routes.specs.declared.hop.Hop.{Hop}
use Rattle.planner.proofs.ListTests.{some_same}
use Rattle.certificate.proofs.Entries.{In}
use Rattle.certificate.proofs.Hops.{arrival}

pub nth_in : {A : Type 0} (xs : List A) (k : ℕ) (x : A) → slice_get xs k ≡ Some x → In x xs
nth_in [] k x e = absurd (some≢none (sym e))
nth_in (y ∷ ys) zero x e = inl (some_same y x e)
nth_in (y ∷ ys) (suc k) x e = inr (nth_in ys k x e)

pub in_nth : {A : Type 0} (xs : List A) (x : A) → In x xs → (k : ℕ) × (slice_get xs k ≡ Some x)
in_nth [] x h = absurd h
in_nth (y ∷ ys) x (inl e) = (0, ap Some e)
in_nth (y ∷ ys) x (inr h) = let i = in_nth ys x h in (suc i.0, i.1)

pub arrival_last : (f : ℕ) (bs : List Booking) (b : Booking) → last bs ≡ Some b → arrival f bs ≡ end b
arrival_last f [] b e = absurd (some≢none (sym e))
arrival_last f (c ∷ []) b e = ap end (some_same c b e)
arrival_last f (c ∷ d ∷ ds) b e =
    let n : suc (suc (length ds)) - 1 ≡ suc (length ds) = omega arith in
    let m : suc (length ds) - 1 ≡ length ds = omega arith in
    arrival_last (end c) (d ∷ ds) b (rw m (rw n at e))

-- the last leg, where there is one
pub last_leg : (f : ℕ) (b : Booking) (bs : List Booking) → (c : Booking) × (last (b ∷ bs) ≡ Some c) × (arrival f (b ∷ bs) ≡ end c)
last_leg f b [] = (b, refl, refl)
last_leg f b (c ∷ cs) =
    let r = last_leg (end b) c cs in
    let n : suc (suc (length cs)) - 1 ≡ suc (length cs) = omega arith in
    let m : suc (length cs) - 1 ≡ length cs = omega arith in
    (r.0, rw n (rw m at r.1), r.2)

-- as many legs as hops, where each hop has a start
pub all_legs : (N : NetData) (v : ℕ) (hs : List Hop) (ss : List ℕ) → length ss ≡ length hs → length (legs_on N v hs ss) ≡ length hs
all_legs N v [] ss l = refl
all_legs N v (h ∷ hs) [] l = absurd (omega arith)
all_legs N v (h ∷ hs) (s ∷ ss) l = ap suc (all_legs N v hs ss (omega arith))

-- a leg's resource is a link's
leg_resource : (N : NetData) (v : ℕ) (hs : List Hop) (ss : List ℕ) (b : Booking) → In b (legs_on N v hs ss) → 16 ≤ b.resource
leg_resource N v [] ss b h = absurd h
leg_resource N v (g ∷ hs) [] b h = absurd h
leg_resource N v (g ∷ hs) (s ∷ ss) b (inl e) = subst (λ x. 16 ≤ x.resource) e (omega arith)
leg_resource N v (g ∷ hs) (s ∷ ss) b (inr h) = leg_resource N v hs ss b h

way_resource : (N : NetData) (v : ℕ) (w : Option (List Hop)) (ss : List ℕ) (b : Booking) → In b (legs_along N v w ss) → 16 ≤ b.resource
way_resource N v None ss b h = absurd h
way_resource N v (Some hs) ss b h = leg_resource N v hs ss b h

edge_resource : (N : NetData) (ρ : Ways) (P : PlanData) (i : ℕ) (o : Option Edge) (b : Booking) → In b (legs_at N ρ P i o) → 16 ≤ b.resource
edge_resource N ρ P i None b h = absurd h
edge_resource N ρ P i (Some e) b h = way_resource N e.volume (way ρ P e) (starts P i) b h

pub legs_resource : (J : JobData) (N : NetData) (ρ : Ways) (P : PlanData) (i : ℕ) (b : Booking) → In b (legs J N ρ P i) → 16 ≤ b.resource
legs_resource J N ρ P i b h = edge_resource N ρ P i (slice_get J.edges i) b h

-- the ways of an edge

pub way_no_origin : (ρ : Ways) (P : PlanData) (e : Edge) → task_row P e.from ≡ None → way ρ P e ≡ Some []
way_no_origin ρ P e r = ap (λ x. way_between ρ x (task_row P e.to)) r

pub way_no_goal : (ρ : Ways) (P : PlanData) (e : Edge) → task_row P e.to ≡ None → way ρ P e ≡ Some []
way_no_goal ρ P e r = go (task_row P e.from)
  where
    go : (o : Option Placement) → way_between ρ o (task_row P e.to) ≡ Some []
    go None = refl
    go (Some p) = ap (λ x. way_between ρ (Some p) x) r

pub way_of_both : (ρ : Ways) (P : PlanData) (e : Edge) (p q : Placement) → task_row P e.from ≡ Some p → task_row P e.to ≡ Some q → way ρ P e ≡ way_between ρ (Some p) (Some q)
way_of_both ρ P e p q a b = ap (λ x. way_between ρ x (task_row P e.to)) a ∙ ap (λ x. way_between ρ (Some p) x) b

pub way_same_machine : (ρ : Ways) (P : PlanData) (e : Edge) (p q : Placement) → task_row P e.from ≡ Some p → task_row P e.to ≡ Some q → p.station ≡ q.station → way ρ P e ≡ Some []
way_same_machine ρ P e p q a b s = way_of_both ρ P e p q a b ∙ cond-true _ _ _ (eq-eqb _ _ s)

pub way_by_route : (ρ : Ways) (P : PlanData) (e : Edge) (p q : Placement) → task_row P e.from ≡ Some p → task_row P e.to ≡ Some q → (p.station ≡ q.station → ⊥) → way ρ P e ≡ ρ p.station q.station
way_by_route ρ P e p q a b ne = way_of_both ρ P e p q a b ∙ cond-false _ _ _ (ne_eqb _ _ ne)

-- the legs of an edge that is there
module _ (J : JobData) (N : NetData) (ρ : Ways) (P : PlanData) (i : ℕ) where
  pub legs_of_edge : (e : Edge) → slice_get J.edges i ≡ Some e → legs J N ρ P i ≡ legs_along N e.volume (way ρ P e) (starts P i)
  legs_of_edge e n = ap (λ o. legs_at N ρ P i o) n

  pub legs_by_way : (e : Edge) (hs : List Hop) → slice_get J.edges i ≡ Some e → way ρ P e ≡ Some hs → legs J N ρ P i ≡ legs_on N e.volume hs (starts P i)
  legs_by_way e hs n w = legs_of_edge e n ∙ ap (λ x. legs_along N e.volume x (starts P i)) w

  pub same_machine_legs : (e : Edge) (p q : Placement) → slice_get J.edges i ≡ Some e → task_row P e.from ≡ Some p → task_row P e.to ≡ Some q → p.station ≡ q.station → legs J N ρ P i ≡ []
  same_machine_legs e p q n a b s = legs_by_way e [] n (way_same_machine ρ P e p q a b s)

  -- a leg is of an edge whose origin is placed
  pub leg_origin : (k : ℕ) (b : Booking) → slice_get (legs J N ρ P i) k ≡ Some b → (e : Edge) × (p : Placement) × (slice_get J.edges i ≡ Some e) × (task_row P e.from ≡ Some p)
  leg_origin k b m = at_edge (slice_get J.edges i) refl
    where
      at_origin : (e : Edge) → slice_get J.edges i ≡ Some e → (o : Option Placement) → task_row P e.from ≡ o → (e : Edge) × (p : Placement) × (slice_get J.edges i ≡ Some e) × (task_row P e.from ≡ Some p)
      at_origin e n (Some p) r = (e, p, n, r)
      at_origin e n None r =
          absurd (some≢none (sym (subst (λ bs. slice_get bs k ≡ Some b) (legs_by_way e [] n (way_no_origin ρ P e r)) m)))

      at_edge : (o : Option Edge) → slice_get J.edges i ≡ o → (e : Edge) × (p : Placement) × (slice_get J.edges i ≡ Some e) × (task_row P e.from ≡ Some p)
      at_edge (Some e) n = at_origin e n (task_row P e.from) refl
      at_edge None n = absurd (some≢none (sym (subst (λ o. slice_get (legs_at N ρ P i o) k ≡ Some b) n m)))

-- the station of a placed task
abbrev pub stands : Option Placement → Option ℕ
stands None = None
stands (Some p) = Some p.station

-- the same stations give the same ways
pub same_way : (ρ : Ways) (a b c d : Option Placement) → stands a ≡ stands c → stands b ≡ stands d → way_between ρ a b ≡ way_between ρ c d
same_way ρ None b None d e f = refl
same_way ρ None b (Some c) d e f = absurd (some≢none (sym e))
same_way ρ (Some a) b None d e f = absurd (some≢none e)
same_way ρ (Some a) None (Some c) None e f = refl
same_way ρ (Some a) None (Some c) (Some d) e f = absurd (some≢none (sym f))
same_way ρ (Some a) (Some b) (Some c) None e f = absurd (some≢none f)
same_way ρ (Some a) (Some b) (Some c) (Some d) e f =
    let x : a.station ≡ c.station = some_same _ _ e in
    let y : b.station ≡ d.station = some_same _ _ f in
    ap (λ s. cond (eqb s b.station) (Some []) (ρ s b.station)) x ∙ ap (λ s. cond (eqb c.station s) (Some []) (ρ c.station s)) y

-- two plans with the same stations, and with the same starts of a transfer, have its legs in common
module _ (N : NetData) (ρ : Ways) (P Q : PlanData) (st : (u : ℕ) → stands (task_row Q u) ≡ stands (task_row P u)) where
  pub ways_same : (e : Edge) → way ρ Q e ≡ way ρ P e
  ways_same e = same_way ρ _ _ _ _ (st e.from) (st e.to)

  legs_at_same : (i : ℕ) (o : Option Edge) → starts Q i ≡ starts P i → legs_at N ρ Q i o ≡ legs_at N ρ P i o
  legs_at_same i None ss = refl
  legs_at_same i (Some e) ss = ap (λ w. legs_along N e.volume w (starts Q i)) (ways_same e) ∙ ap (λ x. legs_along N e.volume (way ρ P e) x) ss

  pub legs_same : (J : JobData) (i : ℕ) → starts Q i ≡ starts P i → legs J N ρ Q i ≡ legs J N ρ P i
  legs_same J i ss = legs_at_same i (slice_get J.edges i) ss
