-- The levels of the tasks from t on are known; each task raised the greatest by less than 2 ^ 33.
use Rattle.std.proofs.Common.{◌≡◌, ℕ, ◌*◌, ◌-◌, ◌^◌, ◌≤◌, EachIndex, slice_index}
use Rattle.model.specs.Data.{job_of}
use Rattle.planner.specs.Levels.{bottom_level}
use Rattle.planner.proofs.levels.bottom_levels.Given as goal

abbrev pub invariant-loop-t : goal.invariant-loop-t
invariant-loop-t l = record {
  known : (k : ℕ) → l.t ≤ k → slice_index l.levels k ≡ bottom_level (job_of l.job) k;
  low : EachIndex l.levels (λ k. slice_index l.levels k ≤ 2 ^ 40 - l.t * 2 ^ 33);
}
