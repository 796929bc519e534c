-- The loop of fill: what waits, placed from the state that was reached, is what fill makes of the state that it began with.
use Rattle.std.proofs.Common.{◌≡◌, ℕ, List, [], ◌∷◌, IsPermutation, map, Ok, Err, Result, refl, sym, ap, subst, ◌∙◌}
use Rattle.std.specs.Result.{result_ok}
use Rattle.model.specs.Data.{JobData, NetData}
use Rattle.model.specs.declared.refusal.Refusal.{Refusal}
use Rattle.queue.specs.Orders.{IsFirst}
use Rattle.routes.specs.Legs.{Ways}
use Rattle.planner.specs.declared.waiting.Waiting.{Waiting}
use Rattle.planner.specs.Calls.{left_with}
use Rattle.planner.specs.Chains.{and_then}
use Rattle.planner.specs.Filling.{by_priority, unplaced_tasks, placed_first, filled}
use Rattle.planner.specs.Levels.{bottom_level}
use Rattle.planner.specs.Outcomes.{DrawState, outcome}
use Rattle.planner.specs.Reached.{Reached, itself, one_more}
use Rattle.planner.specs.States.{Given, Ordered}
use Rattle.planner.specs.Waits.{waits_before, waiting_by}
use Rattle.planner.proofs.FirstFinishes.{placed_where_first}
use Rattle.planner.proofs.KeptOrder.{placing_keeps_order}
use Rattle.planner.proofs.Trying.{came, refused_with, stayed}
use Rattle.planner.proofs.WaitingTasks.{Waits, Taken, waits_begin, waits_end, waits_next}

module _ (J : JobData) (N : NetData) (ρ : Ways) (given : Given J N ρ) where
  pub ordered_reached : (S U : DrawState) → Ordered J N ρ S → Reached J N ρ S U → Ordered J N ρ U
  ordered_reached S U ordered itself = ordered
  ordered_reached S U ordered (one_more {U = V} t m f reached is) = placing_keeps_order J N ρ given V U t m f (ordered_reached S V ordered reached) is

module _ (J : JobData) (N : NetData) (ρ : Ways) (S : DrawState) where
  -- the tasks that fill takes, in their order
  abbrev pub order : List ℕ
  order = by_priority (bottom_level J) (unplaced_tasks J S.plan)

  -- what held keeps is placed from U on
  pub record FillsOn (held : List Waiting) (U : DrawState) : Type 0 where
    pub left : List ℕ
    pub waits : Waits (bottom_level J) held left
    pub rest : filled J N ρ left U ≡ filled J N ρ (by_priority (bottom_level J) (unplaced_tasks J S.plan)) S
    pub reached : Reached J N ρ S U

  pub fill_begins : (held : List Waiting) → IsPermutation (map (waiting_by (bottom_level J)) (unplaced_tasks J S.plan)) held → FillsOn held S
  fill_begins held same = record { left = order; waits = waits_begin (bottom_level J) J S.plan held same; rest = refl; reached = itself }

  module _ (held left : List Waiting) (U V : DrawState) (x : Waiting) (r : Result ℕ Refusal) (on : FillsOn held U) (first : IsFirst waits_before held x) (popped : IsPermutation held (x ∷ left)) (h : left_with r V ≡ outcome U (placed_first J N ρ U x.task)) where
    taken : Taken (bottom_level J) held on.left x left
    taken = waits_next (bottom_level J) held left on.left x on.waits first popped

    next : filled J N ρ on.left U ≡ and_then (placed_first J N ρ U x.task) (λ y. filled J N ρ taken.after y.1)
    unfolding filled
    next = ap (λ ts. filled J N ρ ts U) taken.is

    pub fill_goes_on : (f : ℕ) → r ≡ Ok f → FillsOn left V
    fill_goes_on f is =
        let there : placed_first J N ρ U x.task ≡ Ok (f, V) = came U V r (placed_first J N ρ U x.task) h f (ap result_ok is) in
        let on_machine = placed_where_first J N ρ U x.task f V there in
        record {
          left = taken.after;
          waits = taken.waits;
          rest = ap (λ o. and_then o (λ y. filled J N ρ taken.after y.1)) (sym there) ∙ sym next ∙ on.rest;
          reached = one_more x.task on_machine.machine f on.reached on_machine.there;
        }

    pub fill_refused : (e : Refusal) → r ≡ Err e → filled J N ρ order S ≡ Err e
    fill_refused e is =
        let there : placed_first J N ρ U x.task ≡ Err e = refused_with U V r (placed_first J N ρ U x.task) h e is in
        sym on.rest ∙ next ∙ ap (λ o. and_then o (λ y. filled J N ρ taken.after y.1)) there

    pub reached_refused : (e : Refusal) → r ≡ Err e → Reached J N ρ S V
    reached_refused e is = subst (Reached J N ρ S) (sym (stayed U V r (placed_first J N ρ U x.task) h (ap result_ok is))) on.reached

  pub fill_ends : (held : List Waiting) (U : DrawState) → held ≡ [] → FillsOn held U → filled J N ρ order S ≡ Ok U
  unfolding filled
  fill_ends held U none on = sym on.rest ∙ ap (λ ts. filled J N ρ ts U) (waits_end (bottom_level J) held on.left none on.waits)
