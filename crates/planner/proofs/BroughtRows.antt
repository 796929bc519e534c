-- What bringing edges writes: their rows of starts, and their legs as the newest bookings.
use Rattle.std.proofs.Common.{◌≡◌, ℕ, ◌<◌, max, ◌≢◌, List, [], ◌∷◌, ◌++◌, flat_map, length, get_or, set, Ok, sym, refl, ap, subst, ◌∙◌, inl, inr, ⊎_elim}
use Rattle.std.proofs.lemmas.List.{get_or-set_same, get_or-set_other, length-set}
use Rattle.model.specs.Data.{JobData, NetData}
use Rattle.model.specs.Plans.{PlanData}
use Rattle.model.specs.declared.booking.Booking.{Booking}
use Rattle.model.specs.declared.job.Edge.{Edge}
use Rattle.routes.specs.Hops.{hops_of}
use Rattle.routes.specs.Legs.{Ways, legs_on, legs_along}
use Rattle.timetable.specs.Tables.{Table}
use Rattle.planner.specs.Edges.{finish_of, way_to}
use Rattle.planner.specs.Placing.{Brought, with_transfer, bring, bring_all}
use Rattle.planner.specs.Transfers.{Carried, carry}
use Rattle.planner.proofs.CarriedLegs.{ok_same, and_then_ok, Appended, appended_none, appended_both, carry_legs, legs_over_hops}
use Rattle.planner.proofs.IncomingEdges.{Among, Differ}

-- the plan with other rows of starts
abbrev pub with_rows : PlanData → List (List ℕ) → PlanData
with_rows P rows = record { tasks = P.tasks; transfers = rows; steps = P.steps }

module _ (J : JobData) (N : NetData) (ρ : Ways) (P : PlanData) (m : ℕ) where
  -- the legs to machine m of an edge, with the starts in its row
  abbrev pub legs_to : List (List ℕ) → ℕ × Edge → List Booking
  legs_to rows (i, e) = legs_along N e.volume (way_to ρ P m e) (get_or rows i [])

  -- B is what bringing the edges leaves of some rows and of table T
  pub record Brings (es : List (ℕ × Edge)) (before : List (List ℕ)) (T : Table) (B : Brought) : Type 0 where
    pub rows : List (List ℕ)
    pub plan : B.plan ≡ with_rows P rows
    pub appended : Appended T B.table (flat_map (legs_to rows) es)
    pub long : length rows ≡ length before
    pub kept : (j : ℕ) → ((e : Edge) → Among (j, e) es → ⊥) → get_or rows j [] ≡ get_or before j []
    pub counted : (i : ℕ) (e : Edge) → Among (i, e) es → length (get_or rows i []) ≡ length (hops_of (way_to ρ P m e))

  brought_first : (x : ℕ × Edge) (es : List (ℕ × Edge)) (before : List (List ℕ)) (T : Table) (B : Brought) (c : Carried) → x.0 < length before → ((e : Edge) → Among (x.0, e) es → ⊥) → carry N x.1.volume (finish_of J N P x.1.from) (hops_of (way_to ρ P m x.1)) T ≡ Ok c → Brings es (set before x.0 c.starts) c.table B → Brings (x ∷ es) before T B
  brought_first x es before T B c within once went rest =
      let first = carry_legs N x.1.volume (finish_of J N P x.1.from) (hops_of (way_to ρ P m x.1)) T c went in
      let here : get_or rest.rows x.0 [] ≡ c.starts = rest.kept x.0 once ∙ get_or-set_same before x.0 c.starts [] within in
      let legs : legs_to rest.rows x ≡ legs_on N x.1.volume (hops_of (way_to ρ P m x.1)) c.starts =
      legs_over_hops N x.1.volume (way_to ρ P m x.1) (get_or rest.rows x.0 []) ∙ ap (λ ss. legs_on N x.1.volume (hops_of (way_to ρ P m x.1)) ss) here
      in
      record {
        rows = rest.rows;
        plan = rest.plan;
        appended = subst (λ bs. Appended T B.table (bs ++ flat_map (legs_to rest.rows) es)) (sym legs) (appended_both first.appended rest.appended);
        long = rest.long ∙ length-set before x.0 c.starts;
        kept = λ j none. (
            let other : j ≢ x.0 = λ same. none x.1 (inl (λ k. (sym same k, x.1))) in
            rest.kept j (λ e at. none e (inr at)) ∙ get_or-set_other before x.0 j c.starts [] other);
        counted = λ i e at. ⊎_elim
            (λ same. subst (λ y. length (get_or rest.rows y.0 []) ≡ length (hops_of (way_to ρ P m y.1))) same (ap length here ∙ first.counted))
            (λ later. rest.counted i e later)
            at;
      }

  pub bringing : (es : List (ℕ × Edge)) (before : List (List ℕ)) (T : Table) (ready : ℕ) (B : Brought) → Differ es → ((i : ℕ) (e : Edge) → Among (i, e) es → i < length before) → bring_all J N ρ m es (record { plan = with_rows P before; table = T; ready = ready }) ≡ Ok B → Brings es before T B
  unfolding bring_all
  bringing [] before T ready B differ within e = subst (λ C. Brings [] before T C) (ok_same _ B e) (record {
    rows = before;
    plan = refl;
    appended = appended_none T;
    long = refl;
    kept = λ j none. refl;
    counted = λ i edge at. absurd at;
  })
  bringing (x ∷ es) before T ready B differ within e =
      let start : Brought = record { plan = with_rows P before; table = T; ready = ready } in
      let one = and_then_ok (bring J N ρ m x start) (bring_all J N ρ m es) B e in
      let two = and_then_ok (carry N x.1.volume (finish_of J N P x.1.from) (hops_of (way_to ρ P m x.1)) T) (λ c. Ok (with_transfer x.0 start c)) one.0 one.1 in
      let c = two.0 in
      let rest = subst (λ C. bring_all J N ρ m es C ≡ Ok B) (sym (ok_same (with_transfer x.0 start c) one.0 two.2)) one.2 in
      brought_first x es before T B c (within x.0 x.1 (inl refl)) differ.0 two.1
      (bringing es (set before x.0 c.starts) c.table (max ready c.arrival) B differ.1 (λ i edge at. subst (λ n. i < n) (sym (length-set before x.0 c.starts)) (within i edge (inr at))) rest)
