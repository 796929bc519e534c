-- Trying a task on a machine: the sheet is on trial until the try is kept or struck.
use Rattle.std.specs.Prelude.{ℕ, is_ok, if◌then◌else◌}
use Rattle.model.specs.Data.{JobData, NetData}
use Rattle.routes.specs.Legs.{Ways}
use Rattle.planner.specs.Drawing.{place, take_back}
use Rattle.planner.specs.Outcomes.{DrawState, Outcome}

-- a sheet is drawn on, or is on trial
pub data Sheet : Type 0 where
  BeingDrawn : DrawState → Sheet
  BeingTried : DrawState → Sheet

-- Try does what place does, and leaves the sheet on trial; a refused try leaves it as it was.
abbrev pub try_place : JobData → NetData → Ways → DrawState → ℕ → ℕ → Outcome ℕ Sheet
try_place J N ρ S t m =
    let o = place J N ρ S t m in
    record { answer = o.answer; left = if is_ok o.answer then BeingTried o.left else BeingDrawn S }

-- Keep ends the trial.
abbrev pub keep : DrawState → Sheet
keep S = BeingDrawn S

-- Strike keeps and then takes back, so that a refused strike ends the trial as kept.
abbrev pub strike : JobData → NetData → Ways → DrawState → Outcome ℕ Sheet
strike J N ρ S =
    let o = take_back J N ρ S in
    record { answer = o.answer; left = BeingDrawn o.left }
