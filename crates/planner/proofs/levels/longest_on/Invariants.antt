-- The edges that are left give the rest of the greatest.
use Rattle.std.proofs.Common.{◌≡◌, ℕ, ◌+◌, ◌^◌, ◌≤◌, EachIndex, map, max, slice_index, drop, fold}
use Rattle.model.specs.Data.{job_of}
use Rattle.planner.specs.Edges.{outgoing}
use Rattle.planner.specs.Levels.{greatest}
use Rattle.planner.proofs.levels.longest_on.Given as goal

abbrev pub invariant-loop-edge : goal.invariant-loop-edge
invariant-loop-edge l = record {
  left : fold max l.longest (map (λ e. e.volume + slice_index l.levels e.to) (outgoing (drop l.edge-index (job_of l.job).edges) l.t)) ≡ greatest (map (λ e. e.volume + slice_index l.levels e.to) (outgoing (job_of l.job).edges l.t));
  low : (most : ℕ) → EachIndex l.levels (λ k. slice_index l.levels k ≤ most) → l.longest ≤ most + 2 ^ 32;
}
