-- Placing a task books the edges into it one by one: what holds after each.
use Rattle.std.proofs.Common.{◌≡◌, ℕ, suc, ◌+◌, ◌-◌, ◌<◌, ◌≤◌, max, Bool, true, false, ◌≢◌, List, [], ◌∷◌, length, get_or, set, Some, Ok, ◌==◌, if◌then◌else◌, sym, refl, ap, ◌∙◌, subst, ⊎_elim, arith}
use Rattle.std.specs.List.{slice_get}
use Rattle.std.specs.Option.{option_map_or}
use Rattle.std.proofs.lemmas.List.{get_or-set_same, get_or-set_other, length-set}
use Rattle.std.proofs.lemmas.Option.{slice_get_past}
use Rattle.std.proofs.lemmas.Bool.{cases_eq, cases_lt, eqb-true, eq-eqb, both_ways}
use Rattle.model.specs.Data.{JobData, NetData}
use Rattle.model.specs.Plans.{PlanData, task_row, starts, finish}
use Rattle.model.specs.declared.booking.Booking.{Booking}
use Rattle.model.specs.declared.job.Edge.{Edge}
use Rattle.model.specs.declared.plan.Placement.{Placement}
use Rattle.routes.specs.Hops.{hops_of}
use Rattle.routes.specs.Legs.{Ways, legs_on, legs_along, legs}
use Rattle.routes.specs.declared.hop.Hop.{Hop}
use Rattle.timetable.specs.Tables.{Table}
use Rattle.planner.specs.Edges.{way_to, finish_of}
use Rattle.planner.specs.Placing.{Brought, bring, bring_all}
use Rattle.planner.specs.Transfers.{Carried, carry}
use Rattle.planner.proofs.ListTests.{some_same, none≢some}
use Rattle.certificate.proofs.Entries.{In, task, edge, Entry, own, Ledger, Within}
use Rattle.certificate.proofs.Hops.{and_then_ok, arrival, Leaves, leaves_grows, Grown, CameAll, carry_came}
use Rattle.certificate.proofs.Helds.{EdgesHeld}
use Rattle.certificate.proofs.Refusals.{into_from}
use Rattle.certificate.proofs.EdgeLegs.{way_no_origin, legs_of_edge, legs_by_way}
use Rattle.certificate.proofs.Settings.{Setting, with_row, row_old, from_other, way_into, no_legs_yet, legs_old, legs_kept, links_apart}

-- the transfer rows and the table so far, and the tick by which all is there
pub record Progress : Type 0 where
  pub transfers : List (List ℕ)
  pub table : Table
  pub ready : ℕ

-- transfers change nothing else of the plan
abbrev pub brought : PlanData → Progress → Brought
brought P g = record { plan = record { tasks = P.tasks; transfers = g.transfers; steps = P.steps }; table = g.table; ready = g.ready }

abbrev pub after_transfer : ℕ → Progress → Carried → Progress
after_transfer i g c = record { transfers = set g.transfers i c.starts; table = c.table; ready = max g.ready c.arrival }

-- es are the job's edges from i on
abbrev pub IsSuffix : JobData → ℕ → List Edge → Type 0
IsSuffix J i es = (k : ℕ) → slice_get es k ≡ slice_get J.edges (i + k)

pub suffix_all : (J : JobData) → IsSuffix J 0 J.edges
suffix_all J n = ap (λ x. slice_get J.edges x) (let z : n ≡ 0 + n = omega arith in z)

suffix_head : (J : JobData) (i : ℕ) (x : Edge) (es : List Edge) → IsSuffix J i (x ∷ es) → slice_get J.edges i ≡ Some x
suffix_head J i x es same = ap (λ k. slice_get J.edges k) (let z : i ≡ i + 0 = omega arith in z) ∙ sym (same 0)

suffix_tail : (J : JobData) (i : ℕ) (x : Edge) (es : List Edge) → IsSuffix J i (x ∷ es) → IsSuffix J (i + 1) es
suffix_tail J i x es same k = same (suc k) ∙ ap (λ j. slice_get J.edges j) (let z : i + suc k ≡ i + 1 + k = omega arith in z)

module _ (J : JobData) (N : NetData) (ρ : Ways) (P : PlanData) (L0 : List Entry) (t m : ℕ) (T : Table) (G : Setting J N ρ P L0 t m) (s : ℕ) where
  abbrev at : List (List ℕ) → PlanData
  at = with_row P t m s

  -- the edges into the task below i are booked
  pub record Stage (i : ℕ) (g : Progress) (L : List Entry) : Type 0 where
    pub held : Ledger g.table L
    pub horizon : g.table.horizon ≡ T.horizon
    pub long : length g.transfers ≡ 224
    pub since : Within L0 L
    pub tasks : (u : ℕ) (b : Booking) → In (own (task u) b) L → In (own (task u) b) L0
    pub edges : EdgesHeld J N ρ (at g.transfers) L
    pub others : (j : ℕ) (e : Edge) → slice_get J.edges j ≡ Some e → e.to ≢ t → get_or g.transfers j [] ≡ starts P j
    pub past : (j : ℕ) → i ≤ j → get_or g.transfers j [] ≡ starts P j
    pub beyond : (j : ℕ) → length J.edges ≤ j → get_or g.transfers j [] ≡ starts P j
    pub counts : (j : ℕ) (e : Edge) (hs : List Hop) → j < i → slice_get J.edges j ≡ Some e → e.to ≡ t → way_to ρ P m e ≡ Some hs → length (get_or g.transfers j []) ≡ length hs
    pub arrived : (j : ℕ) (e : Edge) (p : Placement) → j < i → slice_get J.edges j ≡ Some e → e.to ≡ t → task_row P e.from ≡ Some p → arrival (finish J N e.from p) (legs J N ρ (at g.transfers) j) ≤ g.ready
    pub first : (r : ℕ) → ((j : ℕ) (e : Edge) (p : Placement) → j < i → slice_get J.edges j ≡ Some e → e.to ≡ t → task_row P e.from ≡ Some p → arrival (finish J N e.from p) (legs J N ρ (at g.transfers) j) ≤ r) → g.ready ≤ r

  abbrev pub none_brought : Progress
  none_brought = record { transfers = P.transfers; table = T; ready = 0 }

  pub stage_start : Ledger T L0 → Stage 0 none_brought L0
  stage_start l = record {
    held = l;
    horizon = refl;
    long = G.rows.transfer_rows;
    since = λ x h. h;
    tasks = λ u b h. h;
    edges = record {
      edge_in = λ i b h. G.edges.edge_in i b (subst (λ bs. In b bs) (same i) h);
      in_edge = λ i b h. subst (λ bs. In b bs) (sym (same i)) (G.edges.in_edge i b h);
      leaves = leaves';
    };
    others = λ j e n to. refl;
    past = λ j h. refl;
    beyond = λ j h. refl;
    counts = λ j e hs h. absurd (omega arith);
    arrived = λ j e p h. absurd (omega arith);
    first = λ r h. omega arith;
  }
    where
      same : (i : ℕ) → legs J N ρ (at P.transfers) i ≡ legs J N ρ P i
      same i = legs_old J N ρ P L0 t m G s i P.transfers refl

      leaves' : (i : ℕ) (e : Edge) (p : Placement) → slice_get J.edges i ≡ Some e → task_row (at P.transfers) e.from ≡ Some p → Leaves L0 (edge i) (finish J N e.from p) (legs J N ρ (at P.transfers) i)
      leaves' i e p n r = subst (λ bs. Leaves L0 (edge i) (finish J N e.from p) bs) (sym (same i)) (⊎_elim leaving (λ z. G.edges.leaves i e p n (sym (row_old J N ρ P L0 t m G s P.transfers e.from z) ∙ r)) (cases_eq e.from t))
        where
          leaving : e.from ≡ t → Leaves L0 (edge i) (finish J N e.from p) (legs J N ρ P i)
          leaving z = subst (λ bs. Leaves L0 (edge i) (finish J N e.from p) bs) (sym (legs_by_way J N ρ P i e [] n (way_no_origin ρ P e (ap (λ u. task_row P u) z ∙ G.asked.blank)))) tt

  stage_skip : (i : ℕ) (g : Progress) (L : List Entry) (e : Edge) → slice_get J.edges i ≡ Some e → e.to ≢ t → Stage i g L → Stage (i + 1) g L
  stage_skip i g L e n ne h = record {
    held = h.held;
    horizon = h.horizon;
    long = h.long;
    since = h.since;
    tasks = h.tasks;
    edges = h.edges;
    others = h.others;
    past = λ j l. h.past j (omega arith);
    beyond = h.beyond;
    counts = λ j e' hs l n' to w. h.counts j e' hs (below j e' l n' to) n' to w;
    arrived = λ j e' p l n' to r. h.arrived j e' p (below j e' l n' to) n' to r;
    first = λ r k. h.first r (λ j e' p l n' to q. k j e' p (omega arith) n' to q);
  }
    where
      below : (j : ℕ) (e' : Edge) → j < i + 1 → slice_get J.edges j ≡ Some e' → e'.to ≡ t → j < i
      below j e' l n' to =
          let no : j ≢ i = λ z. ne (ap (λ x. x.to) (some_same _ _ (sym n ∙ ap (λ k. slice_get J.edges k) (sym z) ∙ n')) ∙ to) in
          omega arith

  -- one edge into the task: e of number i, from a task at p, over the hops hs
  module _ (i : ℕ) (g : Progress) (L : List Entry) (e : Edge) (p : Placement) (hs : List Hop) (c : Carried) (n : slice_get J.edges i ≡ Some e) (to : e.to ≡ t) (rp : task_row P e.from ≡ Some p) (w : way_to ρ P m e ≡ Some hs) (h : Stage i g L) (ran : carry N e.volume (finish J N e.from p) hs g.table ≡ Ok c) where
    abbrev f : ℕ
    f = finish J N e.from p

    abbrev rows₁ : List (List ℕ)
    rows₁ = set g.transfers i c.starts

    abbrev P₀ : PlanData
    P₀ = with_row P t m s g.transfers

    abbrev P₁ : PlanData
    P₁ = with_row P t m s (set g.transfers i c.starts)

    abbrev legs₁ : List Booking
    legs₁ = legs_on N e.volume hs c.starts

    within : i < length J.edges
    within = ⊎_elim (λ l. l) (λ l. absurd (none≢some e (sym (slice_get_past J.edges i l) ∙ n))) (cases_lt i (length J.edges))

    row_here : get_or rows₁ i [] ≡ c.starts
    row_here = get_or-set_same g.transfers i c.starts [] (omega (arith, within, h.long, G.given.job.few_edges))

    row_kept : (j : ℕ) → j ≢ i → get_or rows₁ j [] ≡ get_or g.transfers j []
    row_kept j ne = get_or-set_other g.transfers i j c.starts [] ne

    legs_before : legs J N ρ P₀ i ≡ []
    legs_before = no_legs_yet J N ρ P L0 t m G s i e n to g.transfers (h.past i (omega arith))

    legs_here : legs J N ρ P₁ i ≡ legs₁
    legs_here =
        legs_of_edge J N ρ P₁ i e n
        ∙ ap (λ x. legs_along N e.volume x (get_or rows₁ i [])) (way_into J N ρ P L0 t m G s rows₁ i e n to ∙ w)
        ∙ ap (λ x. legs_on N e.volume hs x) row_here

    kept : (j : ℕ) → j ≢ i → legs J N ρ P₁ j ≡ legs J N ρ P₀ j
    kept j ne = legs_kept J N ρ P L0 t m G s j rows₁ g.transfers (row_kept j ne)

    -- a property of each number: of this one, and of each other
    each : (F : ℕ → Type 0) → F i → ((j : ℕ) → j ≢ i → F j) → (j : ℕ) → F j
    each F here others j = ⊎_elim (λ z. subst F (sym z) here) (others j) (cases_eq j i)

    -- a property of each edge: of this one, and of each other
    each_edge : (F : ℕ → Edge → Type 0) → F i e → ((j : ℕ) (e' : Edge) → j ≢ i → slice_get J.edges j ≡ Some e' → F j e') → (j : ℕ) (e' : Edge) → slice_get J.edges j ≡ Some e' → F j e'
    each_edge F here others j e' n' = ⊎_elim
        (λ z. subst (λ k. F k e') (sym z) (subst (λ x. F i x) (some_same _ _ (sym n ∙ ap (λ x. slice_get J.edges x) (sym z) ∙ n')) here))
        (λ ne. others j e' ne n')
        (cases_eq j i)

    -- the edge owns nothing yet
    none_owned : (j : ℕ) (b : Booking) → j ≡ i → In (own (edge j) b) L → ⊥
    none_owned j b z y = subst (λ bs. In b bs) legs_before (h.edges.in_edge i b (subst (λ k. In (own (edge k) b) L) z y))

    came : CameAll N e.volume (edge i) f hs g.table L c
    came = carry_came N e.volume (edge i) f hs g.table L c h.held (λ x y is. absurd (none_owned i x.booking refl (subst (λ o. In (own o x.booking) L) is y))) (links_apart N ρ G.given.routes (task_row P e.from) (Some (record { station = m; start = 0 })) hs w) ran

    abbrev L₁ : List Entry
    L₁ = came.0.ledger

    grown : Grown (edge i) legs₁ L L₁
    grown = came.0.grown

    edges' : EdgesHeld J N ρ P₁ L₁
    edges' = record {
      edge_in = λ j b. each (λ k. In b (legs J N ρ P₁ k) → In (own (edge k) b) L₁)
          (λ y. grown.new b (subst (λ bs. In b bs) legs_here y))
          (λ k ne y. grown.kept _ (h.edges.edge_in k b (subst (λ bs. In b bs) (kept k ne) y))) j;
      in_edge = λ j b y. ⊎_elim (old j b) (new j b) (grown.only _ y);
      leaves = λ j e' q n'. each_edge (λ k x. task_row P₁ x.from ≡ Some q → Leaves L₁ (edge k) (finish J N x.from q) (legs J N ρ P₁ k))
          (λ r. subst (λ bs. Leaves L₁ (edge i) (finish J N e.from q) bs) (sym legs_here) (subst (λ x. Leaves L₁ (edge i) (finish J N e.from x) legs₁) (some_same _ _ (sym rp ∙ sym (row_old J N ρ P L0 t m G s rows₁ e.from (from_other J N ρ P L0 t m G s i e n to)) ∙ r)) came.1))
          (λ k x ne nk r. subst (λ bs. Leaves L₁ (edge k) (finish J N x.from q) bs) (sym (kept k ne)) (leaves_grows L L₁ (edge k) grown.kept _ _ (h.edges.leaves k x q nk r))) j e' n';
    }
      where
        old : (j : ℕ) (b : Booking) → In (own (edge j) b) L → In b (legs J N ρ P₁ j)
        old j b z = subst (λ bs. In b bs) (sym (kept j (λ ji. none_owned j b ji z))) (h.edges.in_edge j b z)

        new : (j : ℕ) (b : Booking) → (b' : Booking) × In b' legs₁ × (own (edge i) b' ≡ own (edge j) b) → In b (legs J N ρ P₁ j)
        new j b z =
            let o : edge i ≡ edge j = ap (λ x. x.owner) z.2 in
            let ij : i ≡ j = cc o in
            subst (λ k. In b (legs J N ρ P₁ k)) ij (subst (λ bs. In b bs) (sym legs_here) (subst (λ x. In x legs₁) (ap (λ x. x.booking) z.2) z.1))

    stage_brought : Stage (i + 1) (after_transfer i g c) L₁
    stage_brought = record {
      held = came.0.held;
      horizon = came.0.horizon ∙ h.horizon;
      long = length-set g.transfers i c.starts ∙ h.long;
      since = λ x y. grown.kept x (h.since x y);
      tasks = λ u b y. ⊎_elim (λ z. h.tasks u b z) (λ z. absurd (let o : edge i ≡ task u = ap (λ x. x.owner) z.2 in cc o)) (grown.only _ y);
      edges = edges';
      others = each_edge (λ k x. x.to ≢ t → get_or rows₁ k [] ≡ starts P k) (λ no. absurd (no to)) (λ k x ne nk no. row_kept k ne ∙ h.others k x nk no);
      past = λ j l. row_kept j (omega arith) ∙ h.past j (omega arith);
      beyond = λ j l. row_kept j (omega (arith, l, within)) ∙ h.beyond j l;
      counts = λ j e' hs' l n'. each_edge (λ k x. k < i + 1 → x.to ≡ t → way_to ρ P m x ≡ Some hs' → length (get_or rows₁ k []) ≡ length hs')
          (λ _ _ w'. ap length row_here ∙ came.0.count ∙ ap length (some_same _ _ (sym w ∙ w')))
          (λ k x ne nk lk to' w'. ap length (row_kept k ne) ∙ h.counts k x hs' (omega arith) nk to' w') j e' n' l;
      arrived = λ j e' q l n'. each_edge (λ k x. k < i + 1 → x.to ≡ t → task_row P x.from ≡ Some q → arrival (finish J N x.from q) (legs J N ρ P₁ k) ≤ max g.ready c.arrival)
          (λ _ _ r. (let a : arrival (finish J N e.from q) (legs J N ρ P₁ i) ≡ arrival f legs₁ = ap (λ bs. arrival (finish J N e.from q) bs) legs_here ∙ ap (λ x. arrival (finish J N e.from x) legs₁) (some_same _ _ (sym r ∙ rp)) in omega (arith, a, came.2)))
          (λ k x ne nk lk to' r. (let a = h.arrived k x q (omega arith) nk to' r in let b = ap (λ bs. arrival (finish J N x.from q) bs) (kept k ne) in omega (arith, a, b))) j e' n' l;
      first = λ r a. (
          let old : g.ready ≤ r = h.first r (λ j e' q l n' to' rq. subst (λ bs. arrival (finish J N e'.from q) bs ≤ r) (kept j (omega arith)) (a j e' q (omega arith) n' to' rq)) in
          let new : arrival f legs₁ ≤ r = subst (λ bs. arrival f bs ≤ r) legs_here (a i e p (omega arith) n to rp) in
          omega (arith, old, new, came.2));
    }

  -- when all are booked
  pub record Finished (B : Brought) : Type 0 where
    pub progress : Progress
    pub is : brought P progress ≡ B
    pub reached : ℕ
    pub ledger : List Entry
    pub stage : Stage reached progress ledger
    pub all : (j : ℕ) (e : Edge) → slice_get J.edges j ≡ Some e → j < reached

  -- what bringing edge i, which is into the task, gives
  pub record OneBrought (i : ℕ) (g : Progress) (B : Brought) : Type 0 where
    pub carried : Carried
    pub ledger : List Entry
    pub stage : Stage (i + 1) (after_transfer i g carried) ledger
    pub is : brought P (after_transfer i g carried) ≡ B

  one_brought : (i : ℕ) (e : Edge) (g : Progress) (B : Brought) (L : List Entry) → slice_get J.edges i ≡ Some e → e.to ≡ t → Stage i g L → bring J N ρ m (i, e) (brought P g) ≡ Ok B → OneBrought i g B
  one_brought i e g B L n to h ran =
      let p = G.asked.placed i e n to in
      let hs = G.asked.routed i e n to in
      let c = and_then_ok (carry N e.volume (finish_of J N P e.from) (hops_of (way_to ρ P m e)) g.table) _ B ran in
      let departure : finish_of J N P e.from ≡ finish J N e.from p.0 = ap (λ o. option_map_or (finish J N e.from) o 0) p.1 in
      let hops : hops_of (way_to ρ P m e) ≡ hs.0 = ap hops_of hs.1 in
      let there : carry N e.volume (finish J N e.from p.0) hs.0 g.table ≡ Ok c.0 = sym (ap (λ f. carry N e.volume f (hops_of (way_to ρ P m e)) g.table) departure ∙ ap (λ l. carry N e.volume (finish J N e.from p.0) l g.table) hops) ∙ c.1 in
      record { carried = c.0; ledger = _; stage = stage_brought i g L e p.0 hs.0 c.0 n to p.1 hs.1 h there; is = cc c.2 }

  pub bring_all_finished : (i : ℕ) (es : List Edge) (g : Progress) (B : Brought) (L : List Entry) → IsSuffix J i es → Stage i g L → bring_all J N ρ m (into_from t i es) (brought P g) ≡ Ok B → Finished B
  unfolding bring_all
  bring_all_finished i [] g B L same h ran = record {
    progress = g;
    is = cc ran;
    reached = i;
    ledger = L;
    stage = h;
    all = λ j x n. ⊎_elim (λ l. l) (λ l. absurd (none≢some x (same (j - i) ∙ ap (λ k. slice_get J.edges k) (let z : i + (j - i) ≡ j = omega arith in z) ∙ n))) (cases_lt j i);
  }
  bring_all_finished i (x ∷ es) g B L same h ran = go (λ g₁ L₁ h₁. bring_all_finished (i + 1) es g₁ B L₁ (suffix_tail J i x es same) h₁) (x.to == t) refl ran
    where
      n : slice_get J.edges i ≡ Some x
      n = suffix_head J i x es same

      go : ((g₁ : Progress) (L₁ : List Entry) → Stage (i + 1) g₁ L₁ → bring_all J N ρ m (into_from t (i + 1) es) (brought P g₁) ≡ Ok B → Finished B) → (b : Bool) → (x.to == t) ≡ b → bring_all J N ρ m (if b then (i, x) ∷ into_from t (i + 1) es else into_from t (i + 1) es) (brought P g) ≡ Ok B → Finished B
      go more true is run =
          let one = and_then_ok (bring J N ρ m (i, x) (brought P g)) (bring_all J N ρ m (into_from t (i + 1) es)) B run in
          let next = one_brought i x g one.0 L n (eqb-true x.to t is) h one.1 in
          more (after_transfer i g next.carried) next.ledger next.stage (ap (bring_all J N ρ m (into_from t (i + 1) es)) next.is ∙ one.2)
      go more false is run = more g L (stage_skip i g L x n (λ to. both_ways (x.to == t) is (eq-eqb x.to t to)) h) run
