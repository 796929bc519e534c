-- The level of one task more is written.
use Rattle.std.proofs.Common.{◌≡◌, ℕ, ◌+◌, ◌-◌, ◌*◌, ◌^◌, ◌<◌, ◌∙◌, length, slice_index, sym, arith}
use Rattle.model.specs.Data.{job_of, task_count}
use Rattle.model.proofs.Jobs.{of_job}
use Rattle.planner.specs.Levels.{bottom_level}
use Rattle.planner.proofs.LevelLoops.{blank_level, level_past, level_next, level_written, level_low}
use Rattle.planner.proofs.levels.bottom_levels.Goals as goal

pub loop-t-init : goal.loop-t-init
loop-t-init c =
    let J = job_of c.args.job.now in
    record {
      known = λ k past. blank_level 128 k ∙ sym (level_past J k (omega arith));
      low = λ k within. let none = blank_level 128 k in omega arith;
    }

pub longest_on-requires-clause-low : goal.longest_on-requires-clause-low
longest_on-requires-clause-low c = λ k within. omega (arith, c.loop-t.invariant.low k within)

pub overflow_add-levels : goal.overflow_add-levels
overflow_add-levels c =
    let low = c.longest_on.ensures.low (2 ^ 40) (λ k within. omega (arith, c.loop-t.invariant.low k within)) in
    omega arith

pub loop-t-preserved : goal.loop-t-preserved
loop-t-preserved c =
    let J = job_of c.args.job.now in
    let u = c.loop-t.t - 1 in
    let within : u < task_count J = omega arith in
    let later : (k : ℕ) → u < k → slice_index c.loop-t.levels k ≡ bottom_level J k = λ k above. c.loop-t.invariant.known k (omega arith) in
    let is = level_next J (of_job c.args.job.now) c.loop-t.levels u c.from.result c.longest_on.result within later (c.from.ensures ∙ c.work.ensures) c.longest_on.ensures.value in
    let most : ℕ = 2 ^ 40 - c.loop-t.t * 2 ^ 33 in
    let longest = c.longest_on.ensures.low most c.loop-t.invariant.low in
    let room : u < length c.loop-t.levels = omega arith in
    record {
      known = level_written J c.loop-t.levels u (c.from.result + c.longest_on.result) room is later;
      low = level_low c.loop-t.levels u (c.from.result + c.longest_on.result) (2 ^ 40 - u * 2 ^ 33) room (omega arith) (λ k inside. omega (arith, c.loop-t.invariant.low k inside));
    }

pub returns : goal.returns
returns c = λ t. c.loop-t.invariant.known t (omega arith)
