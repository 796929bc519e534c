-- Placing a task keeps what holds of a drawn state, and so does filling.
use Rattle.std.proofs.Common.{◌≡◌, ℕ, ◌+◌, ◌<◌, ◌≤◌, true, ◌≢◌, List, [], ◌∷◌, ◌++◌, length, Some, Ok, Result, sym, ap, ◌∙◌, subst, ⊎_elim, arith}
use Rattle.std.specs.List.{slice_get}
use Rattle.std.proofs.lemmas.List.{length-set}
use Rattle.std.proofs.lemmas.Bool.{cases_eq}
use Rattle.model.specs.Data.{JobData, NetData, is_machine, task_length}
use Rattle.model.specs.Plans.{PlanData, task_row, starts, finish, task_booking}
use Rattle.model.specs.declared.booking.Booking.{Booking}
use Rattle.model.specs.declared.job.Edge.{Edge}
use Rattle.model.specs.declared.plan.Placement.{Placement}
use Rattle.model.specs.declared.refusal.Refusal.{Refusal}
use Rattle.routes.specs.Legs.{Ways, way, legs}
use Rattle.routes.specs.declared.hop.Hop.{Hop}
use Rattle.timetable.specs.Changes.{with_booking}
use Rattle.timetable.specs.Tables.{span}
use Rattle.planner.specs.Edges.{incoming}
use Rattle.planner.specs.Filling.{placed_first, filled}
use Rattle.planner.specs.Outcomes.{DrawState}
use Rattle.planner.specs.Placing.{Brought, bring_all, with_placed, place_refusal, placed}
use Rattle.planner.specs.States.{Given}
use Rattle.planner.specs.Transfers.{ask}
use Rattle.planner.proofs.FirstFinishes.{placed_where_first}
use Rattle.planner.proofs.ListTests.{some_same, none≢some}
use Rattle.certificate.proofs.Entries.{In, task, edge, Entry, own, Within, Busy, busy_grows, Found, ledger_push, blocked, in_push_old, in_push_new, in_push_cases}
use Rattle.certificate.proofs.Hops.{and_then_ok, ask_found, arrival, leaves_grows}
use Rattle.certificate.proofs.Helds.{Ready, EdgesHeld, TasksHeld, RowsHeld, Held}
use Rattle.certificate.proofs.Refusals.{unless_ok, Unrefused, unrefused}
use Rattle.certificate.proofs.Settings.{Setting, with_row, row_new, row_old, old_is_other, from_other, way_into, way_other, legs_old}
use Rattle.certificate.proofs.Stages.{Progress, suffix_all, Stage, none_brought, stage_start, Finished, bring_all_finished}

module _ (J : JobData) (N : NetData) (ρ : Ways) (S : DrawState) (L0 : List Entry) (t m : ℕ) (G : Setting J N ρ S.plan L0 t m) (B : Brought) (s : ℕ) (Z : Finished J N ρ S.plan L0 t m S.table G s B) (W : Found Z.progress.table m Z.progress.ready (task_length J N t m) s) where
  abbrev P : PlanData
  P = S.plan

  abbrev g : Progress
  g = Z.progress

  abbrev P' : PlanData
  P' = with_row S.plan t m s Z.progress.transfers

  abbrev here : Placement
  here = record { station = m; start = s }

  abbrev L : List Entry
  L = Z.ledger

  abbrev L' : List Entry
  L' = Z.ledger ++ own (task t) (task_booking J N t (record { station = m; start = s })) ∷ []

  abbrev stage : Stage J N ρ S.plan L0 t m S.table G s Z.reached Z.progress Z.ledger
  stage = Z.stage

  at_t : (p : Placement) → task_row P' t ≡ Some p → here ≡ p
  at_t p r = some_same _ _ (sym (row_new J N ρ P L0 t m G s g.transfers) ∙ r)

  old : (u : ℕ) → u ≢ t → task_row P' u ≡ task_row P u
  old u n = row_old J N ρ P L0 t m G s g.transfers u n

  was : (u : ℕ) (p : Placement) → u ≢ t → task_row P' u ≡ Some p → task_row P u ≡ Some p
  was u p n r = sym (old u n) ∙ r

  more : Within L0 L'
  more x i = in_push_old x _ L (stage.since x i)

  -- a property of each placed task: of the new one, and of each old one
  each : (F : ℕ → Placement → Type 0) → F t here → ((u : ℕ) (p : Placement) → u ≢ t → task_row P u ≡ Some p → F u p) → (u : ℕ) (p : Placement) → task_row P' u ≡ Some p → F u p
  each F new olds u p r = ⊎_elim (λ e. subst (λ v. F v p) (sym e) (subst (λ q. F t q) (at_t p (ap (λ v. task_row P' v) (sym e) ∙ r)) new)) (λ n. olds u p n (was u p n r)) (cases_eq u t)

  rows' : RowsHeld J N ρ P'
  rows' = record {
    task_rows = length-set P.tasks t _ ∙ G.rows.task_rows;
    transfer_rows = stage.long;
    known = each (λ u p. u < length J.works) G.asked.known (λ u p n r. G.rows.known u p r);
    machine = each (λ u p. is_machine N p.station ≡ true) G.asked.machine (λ u p n r. G.rows.machine u p r);
    empty = λ i l. stage.beyond i l ∙ G.rows.empty i l;
    before = before';
    ways = ways';
  }
    where
      before' : (i : ℕ) (e : Edge) (q : Placement) → slice_get J.edges i ≡ Some e → task_row P' e.to ≡ Some q → (p : Placement) × (task_row P' e.from ≡ Some p)
      before' i e q n r = ⊎_elim (λ to. (let p = G.asked.placed i e n to in (p.0, old e.from (from_other J N ρ P L0 t m G s i e n to) ∙ p.1))) (λ to. (let p = G.rows.before i e q n (was e.to q to r) in (p.0, old e.from (old_is_other J N ρ P L0 t m G s e.from p.0 p.1) ∙ p.1))) (cases_eq e.to t)

      ways' : (i : ℕ) (e : Edge) → slice_get J.edges i ≡ Some e → (hs : List Hop) × (way ρ P' e ≡ Some hs) × (length (starts P' i) ≡ length hs)
      ways' i e n = ⊎_elim
          (λ to. (let hs = G.asked.routed i e n to in (hs.0, way_into J N ρ P L0 t m G s g.transfers i e n to ∙ hs.1, stage.counts i e hs.0 (Z.all i e n) n to hs.1)))
          (λ to. (let w = G.rows.ways i e n in (w.0, way_other J N ρ P L0 t m G s g.transfers i e n to ∙ w.1, ap length (stage.others i e n to) ∙ w.2)))
          (cases_eq e.to t)

  -- what is ready for an old task was ready before, and the other way round
  legs_same : (i : ℕ) (e : Edge) → slice_get J.edges i ≡ Some e → e.to ≢ t → legs J N ρ P' i ≡ legs J N ρ P i
  legs_same i e n to = legs_old J N ρ P L0 t m G s i g.transfers (stage.others i e n to)

  to_other : (u : ℕ) (e : Edge) → u ≢ t → e.to ≡ u → e.to ≢ t
  to_other u e n to z = n (sym to ∙ z)

  ready_after : (u : ℕ) (p : Placement) (r : ℕ) → u ≢ t → task_row P u ≡ Some p → Ready J N ρ P u r → Ready J N ρ P' u r
  ready_after u p r n rp h i e q k to rq =
      let b = G.rows.before i e p k (ap (λ v. task_row P v) to ∙ rp) in
      let nf = old_is_other J N ρ P L0 t m G s e.from b.0 b.1 in
      subst (λ bs. arrival (finish J N e.from q) bs ≤ r) (sym (legs_same i e k (to_other u e n to))) (h i e q k to (was e.from q nf rq))

  ready_before : (u : ℕ) (r : ℕ) → u ≢ t → Ready J N ρ P' u r → Ready J N ρ P u r
  ready_before u r n h i e q k to rq =
      let nf = old_is_other J N ρ P L0 t m G s e.from q rq in
      subst (λ bs. arrival (finish J N e.from q) bs ≤ r) (legs_same i e k (to_other u e n to)) (h i e q k to (old e.from nf ∙ rq))

  tasks' : TasksHeld J N ρ P' L'
  tasks' = record {
    task_in = each (λ u p. In (own (task u) (task_booking J N u p)) L') (in_push_new _ L) (λ u p n r. more _ (G.tasks.task_in u p r));
    in_task = in_task';
    ready = each (λ u p. Ready J N ρ P' u p.start) ready_here (λ u p n r. ready_after u p p.start n r (G.tasks.ready u p r));
    tight = each (λ u p. (r : ℕ) → Ready J N ρ P' u r → r < p.start → Busy L' (task u) p.station r (task_length J N u p.station)) tight_here (λ u p n r k h l. busy_grows {L' = L'} more (G.tasks.tight u p r k (ready_before u k n h) l));
  }
    where
      in_task' : (u : ℕ) (b : Booking) → In (own (task u) b) L' → (p : Placement) × (task_row P' u ≡ Some p) × (b ≡ task_booking J N u p)
      in_task' u b i = ⊎_elim
          (λ y. (let p = G.tasks.in_task u b (stage.tasks u b y) in (p.0, old u (old_is_other J N ρ P L0 t m G s u p.0 p.1) ∙ p.1, p.2)))
          (λ y. (let o : task t ≡ task u = ap (λ x. x.owner) y in let tu : t ≡ u = cc o in let bb : task_booking J N t here ≡ b = ap (λ x. x.booking) y in
          (here, ap (λ v. task_row P' v) (sym tu) ∙ row_new J N ρ P L0 t m G s g.transfers, sym bb ∙ ap (λ v. task_booking J N v here) tu)))
          (in_push_cases _ _ L i)

      ready_here : Ready J N ρ P' t s
      ready_here i e p n to r =
          let a = stage.arrived i e p (Z.all i e n) n to (was e.from p (from_other J N ρ P L0 t m G s i e n to) r) in
          omega (arith, a, W.late)

      -- the task has no booking yet
      owns_nothing : (b : Booking) → In (own (task t) b) L → ⊥
      owns_nothing b y = let there = G.tasks.in_task t b (stage.tasks t b y) in none≢some there.0 (sym G.asked.blank ∙ there.1)

      tight_here : (r : ℕ) → Ready J N ρ P' t r → r < s → Busy L' (task t) m r (task_length J N t m)
      tight_here r h l =
          let from : g.ready ≤ r = stage.first r (λ j e p k n to rp. h j e p n to (old e.from (from_other J N ρ P L0 t m G s j e n to) ∙ rp)) in
          let x = blocked g.table L m g.ready (task_length J N t m) s stage.held W r from l in
          record {
            entry = x.0;
            stands = in_push_old x.0 _ L x.1;
            other = λ o. owns_nothing x.0.booking (subst (λ z. In (own z x.0.booking) L) o x.1);
            hit = x.2;
          }

  edges' : EdgesHeld J N ρ P' L'
  edges' = record {
    edge_in = λ i b y. in_push_old _ _ L (stage.edges.edge_in i b y);
    in_edge = λ i b y. ⊎_elim (λ z. stage.edges.in_edge i b z) (λ z. absurd (let o : task t ≡ edge i = ap (λ x. x.owner) z in cc o)) (in_push_cases _ _ L y);
    leaves = λ i e p n r. leaves_grows L L' (edge i) (λ x y. in_push_old x _ L y) _ _ (stage.edges.leaves i e p n r);
  }

  -- the state, once the task is booked
  with_progress_held : (count : ℕ) → S.table.horizon ≤ 2000000000 → Held J N ρ (record { count = count; plan = P'; table = with_booking g.table (span m s (task_length J N t m)) })
  with_progress_held count small = record {
    ledger = L';
    held = ledger_push g.table L (task t) (task_booking J N t here) g.ready stage.held W;
    small = subst (λ h. h ≤ 2000000000) (sym stage.horizon) small;
    rows = rows';
    tasks = tasks';
    edges = edges';
  }

ok_is : {A : Type 0} (x y : A) → ◌≡◌ {A = Result A Refusal} (Ok x) (Ok y) → x ≡ y
ok_is x y e = cc e

-- the bookings made, and where the task was found to start
pub record PlaceMade (J : JobData) (N : NetData) (ρ : Ways) (S : DrawState) (t m : ℕ) (after : DrawState) : Type 0 where
  pub asked : Unrefused J N ρ S.plan t m
  pub done : Brought
  pub ran : bring_all J N ρ m (incoming J t) (record { plan = S.plan; table = S.table; ready = 0 }) ≡ Ok done
  pub start : ℕ
  pub found : ask done.table m done.ready (task_length J N t m) ≡ Ok start
  pub is : with_placed J N S t m done start ≡ after

place_made : (J : JobData) (N : NetData) (ρ : Ways) (S after : DrawState) (t m f : ℕ) → placed J N ρ S t m ≡ Ok (f, after) → PlaceMade J N ρ S t m after
unfolding placed
place_made J N ρ S after t m f e =
    let a = unless_ok (place_refusal J N ρ S t m) _ (f, after) e in
    let b = and_then_ok (bring_all J N ρ m (incoming J t) (record { plan = S.plan; table = S.table; ready = 0 })) _ (f, after) a.1 in
    let c = and_then_ok (ask b.0.table m b.0.ready (task_length J N t m)) _ (f, after) b.2 in
    record { asked = unrefused J N ρ S t m a.0; done = b.0; ran = b.1; start = c.0; found = c.1; is = ap (λ x. x.1) (ok_is _ _ c.2) }

pub placed_held : (J : JobData) (N : NetData) (ρ : Ways) → Given J N ρ → (S after : DrawState) (t m f : ℕ) → Held J N ρ S → placed J N ρ S t m ≡ Ok (f, after) → Held J N ρ after
placed_held J N ρ given S after t m f H e =
    let I = place_made J N ρ S after t m f e in
    let G : Setting J N ρ S.plan H.ledger t m = record { given = given; rows = H.rows; tasks = H.tasks; edges = H.edges; asked = I.asked } in
    let Z : Finished J N ρ S.plan H.ledger t m S.table G I.start I.done =
    bring_all_finished J N ρ S.plan H.ledger t m S.table G I.start 0 J.edges (none_brought J N ρ S.plan H.ledger t m S.table G I.start) I.done H.ledger (suffix_all J) (stage_start J N ρ S.plan H.ledger t m S.table G I.start H.held) I.ran
    in
    let W : Found Z.progress.table m Z.progress.ready (task_length J N t m) I.start = ask_found Z.progress.table m Z.progress.ready (task_length J N t m) I.start (ap (λ B. ask B.table m B.ready (task_length J N t m)) Z.is ∙ I.found) in
    subst (Held J N ρ) (ap (λ B. with_placed J N S t m B I.start) Z.is ∙ I.is) (with_progress_held J N ρ S H.ledger t m G I.done I.start Z W (S.count + 1) H.small)

pub filled_held : (J : JobData) (N : NetData) (ρ : Ways) → Given J N ρ → (ts : List ℕ) (S after : DrawState) → Held J N ρ S → filled J N ρ ts S ≡ Ok after → Held J N ρ after
unfolding filled
filled_held J N ρ given [] S after H e = subst (Held J N ρ) (let same : S ≡ after = cc e in same) H
filled_held J N ρ given (t ∷ ts) S after H e =
    let one = and_then_ok (placed_first J N ρ S t) _ after e in
    let first = placed_where_first J N ρ S t one.0.0 one.0.1 one.1 in
    filled_held J N ρ given ts one.0.1 after (placed_held J N ρ given S one.0.1 t first.machine one.0.0 H first.there) one.2
