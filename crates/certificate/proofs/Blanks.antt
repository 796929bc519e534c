-- A new sheet's state is held: nothing is placed, and nothing is booked.
use Rattle.std.proofs.Common.{◌≡◌, ℕ, zero, suc, [], get_or, replicate, length, Some, None, sym, refl, ap, ◌∙◌}
use Rattle.model.specs.Data.{JobData, NetData}
use Rattle.model.specs.Plans.{blank_plan, task_row}
use Rattle.model.specs.declared.booking.Booking.{Booking}
use Rattle.model.specs.declared.plan.Placement.{Placement}
use Rattle.model.proofs.Firsts.{some≢none}
use Rattle.routes.specs.Legs.{Ways, legs}
use Rattle.timetable.specs.Tables.{Table}
use Rattle.planner.specs.Drawing.{new_state}
use Rattle.certificate.specs.Certificate.{EmptyTable}
use Rattle.certificate.proofs.Entries.{In}
use Rattle.certificate.proofs.Helds.{Held}
use Rattle.certificate.proofs.EdgeLegs.{in_nth, leg_origin, way_no_origin}

-- each place of a blank table is blank, and so is what is past it
pub blank_row : {A : Type 0} (n t : ℕ) (a : A) → get_or (replicate n a) t a ≡ a
blank_row zero t a = refl
blank_row (suc n) zero a = refl
blank_row (suc n) (suc t) a = blank_row n t a

pub blank_held : (J : JobData) (N : NetData) (ρ : Ways) (T : Table) → EmptyTable T → Held J N ρ (new_state T)
blank_held J N ρ T empty = record {
  ledger = [];
  held = record { is = sym empty.none_booked; sound = record { apart = λ x y i. absurd i; within = λ x i. absurd i } };
  small = empty.horizon;
  rows = record {
    task_rows = refl;
    transfer_rows = refl;
    known = λ t p r. absurd (none t p r);
    machine = λ t p r. absurd (none t p r);
    empty = λ i l. blank_row 224 i [];
    before = λ i e q k r. absurd (none e.to q r);
    ways = λ i e k. ([], way_no_origin ρ blank_plan e (blank_row 128 e.from None), ap length (blank_row 224 i []));
  };
  tasks = record {
    task_in = λ t p r. absurd (none t p r);
    in_task = λ t b i. absurd i;
    ready = λ t p r. absurd (none t p r);
    tight = λ t p r. absurd (none t p r);
  };
  edges = record {
    edge_in = λ i b y. absurd (no_leg i b y);
    in_edge = λ i b y. absurd y;
    leaves = λ i e p k r. absurd (none e.from p r);
  };
}
  where
    none : (t : ℕ) (p : Placement) → task_row blank_plan t ≡ Some p → ⊥
    none t p r = some≢none (sym r ∙ blank_row 128 t None)

    no_leg : (i : ℕ) (b : Booking) → In b (legs J N ρ blank_plan i) → ⊥
    no_leg i b y =
        let k = in_nth (legs J N ρ blank_plan i) b y in
        let o = leg_origin J N ρ blank_plan i k.0 b k.1 in
        none o.0.from o.1 o.3
