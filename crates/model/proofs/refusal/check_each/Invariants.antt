use Rattle.std.proofs.Common.{◌≡◌, ℕ, drop, Option}
use Rattle.model.specs.declared.refusal.Refusal.{Refusal}
use Rattle.model.specs.Refusals.{first_refusal, RefusesBy}
use Rattle.model.proofs.refusal.check_each.Given as goal

abbrev pub invariant-loop-place : goal.invariant-loop-place
invariant-loop-place g l =
    (refuse : ℕ → _ → Option Refusal) → RefusesBy (goal.F-post g l.test) refuse → first_refusal refuse l.place (drop l.place l.items) ≡ first_refusal refuse 0 l.items
