-- A new sheet over an empty timetable is in order.
use Rattle.std.proofs.Common.{◌≡◌, ℕ, [], length, Some, None, refl, sym, ap, ◌∙◌}
use Rattle.std.specs.List.{slice_get}
use Rattle.model.specs.Data.{JobData, NetData}
use Rattle.model.specs.Plans.{blank_plan, task_row}
use Rattle.model.specs.declared.job.Edge.{Edge}
use Rattle.routes.specs.Legs.{Ways, way, way_between}
use Rattle.timetable.specs.Tables.{Table}
use Rattle.planner.specs.Drawing.{new_state}
use Rattle.planner.specs.OrderInWords.{InOrder, IsPlaced}
use Rattle.planner.specs.States.{Ordered}
use Rattle.planner.proofs.Ordered.{tested_in_words}
use Rattle.certificate.specs.Certificate.{EmptyTable}
use Rattle.certificate.proofs.Blanks.{blank_row}

none_placed : (t : ℕ) → IsPlaced blank_plan t → ⊥
none_placed t (p, at) = let none : None ≡ Some p = sym (blank_row 128 t None) ∙ at in cc none

no_step : {A : Type 0} (k : ℕ) (t : A) → slice_get [] k ≡ Some t → ⊥
no_step k t at = cc at

blank_way : (ρ : Ways) (e : Edge) → way ρ blank_plan e ≡ Some []
blank_way ρ e = ap (λ row. way_between ρ row (task_row blank_plan e.to)) (blank_row 128 e.from None)

blank_in_order : (J : JobData) (N : NetData) (ρ : Ways) (T : Table) → T.bookings ≡ [] → InOrder J N ρ (new_state T)
blank_in_order J N ρ T empty = record {
  counted = refl;
  step_placed = λ t (k, at). absurd (no_step k t at);
  step_once = λ j k t at. absurd (no_step j t at);
  placed_step = λ t is. absurd (none_placed t is);
  goal_step = λ i e at some. absurd (some (blank_row 224 i []));
  task_known = λ t is. absurd (none_placed t is);
  edge_known = λ i some. absurd (some (blank_row 224 i []));
  on_machine = λ t p at. absurd (none_placed t (p, at));
  predecessor_placed = λ i e at is. absurd (none_placed e.to is);
  routed = λ i e at. ([], blank_way ρ e, ap length (blank_row 224 i []));
  booked = empty;
}

pub blank_ordered : (J : JobData) (N : NetData) (ρ : Ways) (T : Table) → EmptyTable T → Ordered J N ρ (new_state T)
blank_ordered J N ρ T e = record {
  rows = record { task_rows = refl; transfer_rows = refl };
  tested = (tested_in_words J N ρ (new_state T)).1 (blank_in_order J N ρ T e.none_booked);
}
