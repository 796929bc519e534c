-- What marking a sheet answers that was handed in.
use Rattle.std.specs.Prelude.{ℕ, Ok, Err, Result, if◌then◌else◌}
use Rattle.model.specs.Data.{JobData, NetData}
use Rattle.model.specs.Plans.{PlanData, placed_count, plan_length}
use Rattle.model.specs.declared.refusal.Refusal.{Refusal}
use Rattle.model.specs.declared.refusal.Refusal.TheVariants.{NotInOrder}
use Rattle.routes.specs.Legs.{Ways}
use Rattle.planner.specs.Order.{belongs}
use Rattle.planner.specs.declared.sheet.HandedIn.{HandedIn}
use Rattle.marker.specs.Verdicts.{verdict}
use Rattle.marker.specs.declared.verdict.Verdict.{Verdict}
use Rattle.marker.specs.declared.verdict.Verdict.TheVariants.{Lawful, Broken}
use Rattle.certificate.specs.declared.slip.Slip.{Slip}
use Rattle.certificate.specs.declared.slip.Slip.TheVariants.{Lawful as LawfulSlip, Broken as BrokenSlip}

-- the slip of a plan with this verdict
abbrev pub slip_of : JobData → NetData → PlanData → Verdict → Slip
slip_of J N P Lawful = LawfulSlip (placed_count P) (plan_length J N P)
slip_of J N P (Broken rule first second) = BrokenSlip rule first second

-- A sheet that counts so many steps is given the slip of the plan; one that does not belong to the plan is refused.
abbrev pub slip : JobData → NetData → Ways → ℕ → PlanData → Result Slip Refusal
slip J N ρ count P = if belongs J count P then Ok (slip_of J N P (verdict J N ρ P)) else Err NotInOrder

-- the slip, or the refusal with what the sheet counts that comes back
abbrev pub given_back : ℕ → Result Slip Refusal → Result Slip (ℕ × Refusal)
given_back count (Ok s) = Ok s
given_back count (Err e) = Err (count, e)

-- what was answered, with what the sheet counts for the sheet
abbrev pub counted_back : Result Slip (HandedIn × Refusal) → Result Slip (ℕ × Refusal)
counted_back (Ok s) = Ok s
counted_back (Err (sheet, e)) = Err (sheet.count, e)
