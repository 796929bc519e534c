-- A step that is taken back leaves the state as it was before its task was placed.
use Rattle.std.proofs.Common.{◌≡◌, ℕ, zero, suc, ◌+◌, ◌-◌, ◌<◌, ◌≤◌, ◌≢◌, List, [], ◌∷◌, ◌++◌, fold, length, get_or, set, take, None, Some, sym, refl, ap, subst, ◌∙◌, inl, inr, ⊎_elim, arith}
use Rattle.std.specs.List.{slice_get}
use Rattle.std.proofs.lemmas.Bool.{cases_eq, cases_lt}
use Rattle.std.proofs.lemmas.List.{length_push, length-append, length-set, take_at, set-set, set-get_or, ext_get_or, get_or-set_other}
use Rattle.std.proofs.lemmas.Option.{slice_get-get_or, slice_get_past}
use Rattle.model.specs.Data.{JobData, NetData}
use Rattle.model.specs.Plans.{PlanData, last_step, with_starts}
use Rattle.model.specs.declared.job.Edge.{Edge}
use Rattle.routes.specs.Legs.{Ways}
use Rattle.planner.specs.Bookings.{step_bookings}
use Rattle.planner.specs.Drawing.{without_step}
use Rattle.planner.specs.Edges.{incoming}
use Rattle.planner.specs.Outcomes.{DrawState}
use Rattle.planner.specs.Placing.{Brought}
use Rattle.planner.specs.UndoLaws.{Undoes, TakeBackUndoesPlace}
use Rattle.planner.proofs.AfterPlacing.{MayPlace, plan_then, state_then, starts_old, starts_beyond, no_starts, appends, placed_is}
use Rattle.planner.proofs.BroughtRows.{with_rows}
use Rattle.planner.proofs.IncomingEdges.{Among, incoming_read, incoming_pass}
use Rattle.planner.proofs.KeptOrder.{push_new}
use Rattle.planner.proofs.ListTests.{some_same, none≢some}

-- the rows with those of some edges emptied
abbrev emptied : List (ℕ × Edge) → List (List ℕ) → List (List ℕ)
emptied [] rows = rows
emptied (x ∷ es) rows = emptied es (set rows x.0 [])

emptied_plan : (P : PlanData) (es : List (ℕ × Edge)) (rows : List (List ℕ)) → fold (λ Q (i, e). with_starts Q i []) (with_rows P rows) es ≡ with_rows P (emptied es rows)
emptied_plan P [] rows = refl
emptied_plan P (x ∷ es) rows = emptied_plan P es (set rows x.0 [])

emptied_long : (es : List (ℕ × Edge)) (rows : List (List ℕ)) → length (emptied es rows) ≡ length rows
emptied_long [] rows = refl
emptied_long (x ∷ es) rows = emptied_long es (set rows x.0 []) ∙ length-set rows x.0 []

set_empty : (rows : List (List ℕ)) (i : ℕ) → get_or (set rows i []) i [] ≡ []
set_empty [] i = refl
set_empty (r ∷ rows) zero = refl
set_empty (r ∷ rows) (suc i) = set_empty rows i

set_leaves_empty : (rows : List (List ℕ)) (i j : ℕ) → get_or rows j [] ≡ [] → get_or (set rows i []) j [] ≡ []
set_leaves_empty [] i j e = e
set_leaves_empty (r ∷ rows) zero zero e = refl
set_leaves_empty (r ∷ rows) zero (suc j) e = e
set_leaves_empty (r ∷ rows) (suc i) zero e = e
set_leaves_empty (r ∷ rows) (suc i) (suc j) e = set_leaves_empty rows i j e

emptied_still : (es : List (ℕ × Edge)) (rows : List (List ℕ)) (j : ℕ) → get_or rows j [] ≡ [] → get_or (emptied es rows) j [] ≡ []
emptied_still [] rows j e = e
emptied_still (x ∷ es) rows j e = emptied_still es (set rows x.0 []) j (set_leaves_empty rows x.0 j e)

emptied_among : (es : List (ℕ × Edge)) (rows : List (List ℕ)) (j : ℕ) (e : Edge) → Among (j, e) es → get_or (emptied es rows) j [] ≡ []
emptied_among [] rows j e at = absurd at
emptied_among (x ∷ es) rows j e at = ⊎_elim
    (λ same. emptied_still es (set rows x.0 []) j (let here : x.0 ≡ j = ap (λ y. y.0) same in subst (λ k. get_or (set rows x.0 []) k [] ≡ []) here (set_empty rows x.0)))
    (λ later. emptied_among es (set rows x.0 []) j e later)
    at

emptied_other : (es : List (ℕ × Edge)) (rows : List (List ℕ)) (j : ℕ) → ((e : Edge) → Among (j, e) es → ⊥) → get_or (emptied es rows) j [] ≡ get_or rows j []
emptied_other [] rows j none = refl
emptied_other (x ∷ es) rows j none =
    let other : j ≢ x.0 = λ same. none x.1 (inl (λ k. (sym same k, x.1))) in
    emptied_other es (set rows x.0 []) j (λ e at. none e (inr at)) ∙ get_or-set_other rows x.0 j [] [] other

module _ (J : JobData) (N : NetData) (ρ : Ways) (S : DrawState) (t m s : ℕ) (B : Brought) (C : MayPlace J N ρ S t m B) where
  abbrev P : PlanData
  P = S.plan

  abbrev Q : PlanData
  Q = plan_then J N ρ S t m s B C

  abbrev U : DrawState
  U = state_then J N ρ S t m s B C

  row_back : (j : ℕ) → get_or (emptied (incoming J t) Q.transfers) j [] ≡ get_or P.transfers j []
  row_back j = ⊎_elim inside outside (cases_lt j (length J.edges))
    where
      inside : j < length J.edges → get_or (emptied (incoming J t) Q.transfers) j [] ≡ get_or P.transfers j []
      inside less =
          let e : Edge = get_or J.edges j (record { from = 0; to = 0; volume = 0 }) in
          let at : slice_get J.edges j ≡ Some e = slice_get-get_or J.edges j (record { from = 0; to = 0; volume = 0 }) less in
          ⊎_elim
          (λ goal. emptied_among (incoming J t) Q.transfers j e (incoming_pass J t j e at goal) ∙ sym (no_starts J N ρ S t m s B C j e at goal))
          (λ other. emptied_other (incoming J t) Q.transfers j (λ d among. let r = incoming_read J t j d among in other (ap (λ x. x.to) (some_same e d (sym at ∙ r.0)) ∙ r.1)) ∙ starts_old J N ρ S t m s B C j e at other)
          (cases_eq e.to t)

      outside : length J.edges ≤ j → get_or (emptied (incoming J t) Q.transfers) j [] ≡ get_or P.transfers j []
      outside past = emptied_other (incoming J t) Q.transfers j (λ d among. none≢some d (sym (slice_get_past J.edges j past) ∙ (incoming_read J t j d among).0)) ∙ starts_beyond J N ρ S t m s B C j past

  rows_back : emptied (incoming J t) Q.transfers ≡ P.transfers
  rows_back = ext_get_or [] (emptied (incoming J t) Q.transfers) P.transfers (emptied_long (incoming J t) Q.transfers ∙ C.brings.long) (λ j within. row_back j)

  tasks_back : set Q.tasks t None ≡ P.tasks
  tasks_back = set-set P.tasks t _ None ∙ ap (λ row. set P.tasks t row) (sym C.allowed.blank) ∙ set-get_or P.tasks t None

  steps_back : take (length Q.steps - 1) Q.steps ≡ P.steps
  steps_back = take_at P.steps (t ∷ []) (length Q.steps - 1) (omega (arith, length_push P.steps t))

  bookings_back : take (length U.table.bookings - length (step_bookings J N ρ Q t)) U.table.bookings ≡ S.table.bookings
  bookings_back =
      let new = step_bookings J N ρ Q t in
      ap (λ bs. take (length bs - length new) bs) (appends J N ρ S t m s B C).bookings ∙ take_at S.table.bookings new (length (S.table.bookings ++ new) - length new) (omega (arith, length-append S.table.bookings new))

  state_back : without_step J N ρ U t ≡ S
  unfolding without_step
  state_back =
      let fewer : S.count + 1 - 1 ≡ S.count = omega arith in
      let emptied_all = emptied_plan Q (incoming J t) Q.transfers in
      let table = appends J N ρ S t m s B C in
      ap (λ V. record {
        count = S.count + 1 - 1;
        plan = record { tasks = set V.tasks t None; transfers = V.transfers; steps = take (length V.steps - 1) V.steps };
        table = record { horizon = U.table.horizon; most = U.table.most; bookings = take (length U.table.bookings - length (step_bookings J N ρ Q t)) U.table.bookings };
      }) emptied_all
      ∙ (λ i. record {
        count = fewer i;
        plan = record { tasks = tasks_back i; transfers = rows_back i; steps = steps_back i };
        table = record { horizon = table.horizon i; most = table.most i; bookings = bookings_back i };
      })

  last_is : last_step Q ≡ Some t
  last_is =
      let last : length Q.steps - 1 ≡ length P.steps = omega (arith, length_push P.steps t) in
      ap (λ k. slice_get Q.steps k) last ∙ push_new P.steps t

  pub undoes_then : Undoes J N ρ S (state_then J N ρ S t m s B C) t
  undoes_then = record { last = last_is; before = state_back }

pub take_back_undoes_place : TakeBackUndoesPlace
take_back_undoes_place J N ρ given S after t m f ordered e =
    let done = placed_is J N ρ given S t m ordered f after e in
    subst (λ V. Undoes J N ρ S V t) done.is (undoes_then J N ρ S t m done.start done.brought done.may)
