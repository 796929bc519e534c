-- Proofs that a station settled later is no nearer, and which ways the earlier ones offer it; no definition to read stands here.
use Rattle.std.specs.Prelude.{◌≡◌, ℕ, zero, suc, ◌<◌, ◌≤◌, Bool, false, List, take, Some}
use Rattle.std.specs.List.{slice_get}
use Rattle.std.proofs.Common.{sym, ap, ◌∙◌, subst, ⊎_elim, arith}
use Rattle.std.proofs.lemmas.Bool.{cases_lt}
use Rattle.std.proofs.lemmas.Option.{same_Some}
use Rattle.model.specs.Data.{NetData, station_count}
use Rattle.model.specs.declared.network.Link.{Link}
use Rattle.queue.specs.Orders.{IsStrictTotalOrder}
use Rattle.routes.specs.Best.{LeadsTo, LastHop}
use Rattle.routes.specs.LengthLaws.{LengthLaws}
use Rattle.routes.specs.Shown.Reading.{slice_get_take, within_take}
use Rattle.routes.specs.Search.{is_settled}
use Rattle.routes.specs.Shown.Settling.{Settling, fresh_earlier}
use Rattle.routes.specs.declared.settled.Settled.{Settled}

pub never_before_itself : {X : Type 0} (before : X → X → Bool) → IsStrictTotalOrder before → (x : X) → before x x ≡ false
never_before_itself before order x = grind (arith, order.asymmetric)

module _ {X : Type 0} (before : X → X → Bool) (longer : X → Link → X) (N : NetData) (start : X) (s : ℕ) (us : List (Settled X)) (p : Settling before longer N start s us) where
  -- what leads on from a station among the first n
  pub leads_within : (n i : ℕ) (u : Settled X) (l : ℕ) (k : Link) (t : ℕ) → i < n → LeadsTo before longer N us i u l k t → LeadsTo before longer N (take n us) i u l k t
  leads_within n i u l k t within leads = record { settled = slice_get_take n us i within ∙ leads.settled; link = leads.link; carried = leads.carried }

  -- no way from a station before a, to one that was not settled when a was, is better than that to a
  pub offered : (i j : ℕ) (a u : Settled X) (l : ℕ) (k : Link) (t : ℕ) → i ≤ j → slice_get us (suc j) ≡ Some a → LeadsTo before longer N us i u l k t → t < station_count N → is_settled (take (suc j) us) t ≡ false
      → before (longer u.distance k) a.distance ≡ false
  offered i j a u l k t le at leads known fresh = (p.next j a at).none_better i u l k t (leads_within (suc j) i u l k t (omega arith) leads) known fresh

  -- a is reached from one of the stations before it
  pub record Reached (i : ℕ) (a : Settled X) : Type 0 where
    pub hop : LastHop before longer N (take (suc i) us) a
    pub from : a.from ≤ i
    pub leads : LeadsTo before longer N us a.from hop.origin a.link hop.over a.station

  pub reached_from : (i : ℕ) (a : Settled X) → slice_get us (suc i) ≡ Some a → Reached i a
  reached_from i a at =
      let hop = p.reached i a at in
      let place = within_take (suc i) us a.from hop.origin hop.leads.settled in
      record { hop = hop; from = omega (arith, place.0); leads = record { settled = place.1; link = hop.leads.link; carried = hop.leads.carried } }

  module _ (order : IsStrictTotalOrder before) (laws : LengthLaws before longer) where
    -- the way to b goes through a station settled before a, so it was offered when a was settled
    passed_over : (i j : ℕ) (a b : Settled X) (r : Reached j b) → i ≤ j → b.from < i → slice_get us i ≡ Some a → slice_get us (suc j) ≡ Some b → before b.distance a.distance ≡ false
    passed_over zero j a b r le earlier at_i at_j = absurd (omega arith)
    passed_over (suc i) j a b r le earlier at_i at_j =
        let b_next = p.next j b at_j in
        rw r.hop.distance
        (offered b.from i a r.hop.origin b.link r.hop.over b.station (omega arith) at_i r.leads b_next.known
        (fresh_earlier us b.station (suc i) (suc j) (omega arith) b_next.fresh))

    same_place : (i j : ℕ) (a b : Settled X) → i ≡ j → slice_get us i ≡ Some a → slice_get us j ≡ Some b → before b.distance a.distance ≡ false
    same_place i j a b place at_i at_j =
        let same = same_Some a b (sym at_i ∙ ap (slice_get us) place ∙ at_j) in
        subst (λ (w : Settled X). before b.distance w.distance ≡ false) (sym same) (never_before_itself before order b.distance)

    nearer_by : (bound i j : ℕ) (a b : Settled X) → j < bound → i ≤ j → slice_get us i ≡ Some a → slice_get us j ≡ Some b → before b.distance a.distance ≡ false
    nearer_by zero i j a b small le at_i at_j = absurd (omega arith)
    nearer_by (suc bound) i zero a b small le at_i at_j = same_place i zero a b (omega arith) at_i at_j
    nearer_by (suc bound) i (suc j) a b small le at_i at_j =
        ⊎_elim
        (λ (earlier : i < suc j).
        let r = reached_from j b at_j in
        ⊎_elim (λ (through : b.from < i). passed_over i j a b r (omega arith) through at_i at_j)
        (λ (after : i ≤ b.from).
        let u = r.hop.origin in
        rw r.hop.distance
        (order.negatively_transitive (longer u.distance r.hop.over) u.distance a.distance (laws.never_better u.distance r.hop.over)
        (nearer_by bound i b.from a u (omega (arith, r.from)) after at_i r.leads.settled)))
        (cases_lt b.from i))
        (λ (past : suc j ≤ i). same_place i (suc j) a b (omega arith) at_i at_j)
        (cases_lt i (suc j))

    -- the later of two stations is no nearer
    pub no_nearer : (i j : ℕ) (a b : Settled X) → i ≤ j → slice_get us i ≡ Some a → slice_get us j ≡ Some b → before b.distance a.distance ≡ false
    no_nearer i j a b le at_i at_j = nearer_by (suc j) i j a b (omega arith) le at_i at_j
