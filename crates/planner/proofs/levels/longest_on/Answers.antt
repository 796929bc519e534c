-- An edge out of the task is compared, another is passed over.
use Rattle.std.proofs.Common.{◌≡◌, ◌+◌, ◌∙◌, get_or, length, max, slice_index, sym, ap, arith, rules}
use Rattle.model.specs.Data.{job_of}
use Rattle.model.specs.declared.job.Edge.{Edge}
use Rattle.model.proofs.Jobs.{of_job}
use Rattle.planner.proofs.LevelLoops.{edge_known, turn_out, turn_other, rest_none}
use Rattle.planner.proofs.levels.longest_on.Goals as goal
use Rattle.planner.proofs.levels.longest_on.Goals.{then-edge-t, else-edge-t}

pub offset_bounds-levels-edge : goal.offset_bounds-levels-edge
offset_bounds-levels-edge c =
    let J = job_of c.args.job.now in
    let known = edge_known J (of_job c.args.job.now) c.edges-edge-items.result.now c.edges-edge-items.ensures c.loop-edge.edge-index (record { from = 0; to = 0; volume = 0 }) c.loop-edge-test.true in
    omega arith

pub bounds-levels-edge : goal.bounds-levels-edge
bounds-levels-edge c =
    let J = job_of c.args.job.now in
    let known = edge_known J (of_job c.args.job.now) c.edges-edge-items.result.now c.edges-edge-items.ensures c.loop-edge.edge-index (record { from = 0; to = 0; volume = 0 }) c.loop-edge-test.true in
    omega (arith, c.requires.rows)

pub loop-edge-preserved : goal.loop-edge-preserved
loop-edge-preserved c =
    let J = job_of c.args.job.now in
    let es = c.edges-edge-items.result.now in
    let i = c.loop-edge.edge-index in
    let f = λ (e : Edge). e.volume + slice_index c.args.levels.now e.to in
    let d : Edge = record { from = 0; to = 0; volume = 0 } in
    elim c.if-edge-t.branch [
      | then-edge-t w ↦
          let known = edge_known J (of_job c.args.job.now) es c.edges-edge-items.ensures i d c.loop-edge-test.true in
          let is : c.if-edge-t.longest ≡ max c.loop-edge.longest (f (get_or es i d)) = search rules in
          record {
            left = sym (turn_out f c.args.t J.edges es c.edges-edge-items.ensures i c.loop-edge.longest c.if-edge-t.longest d c.loop-edge-test.true w.if-edge-t.true is) ∙ c.loop-edge.invariant.left;
            low = λ most each. omega (arith, each (get_or es i d).to (omega (arith, c.requires.rows)), c.loop-edge.invariant.low most each);
          }
      | else-edge-t w ↦ record {
        left = sym (turn_other f c.args.t J.edges es c.edges-edge-items.ensures i c.loop-edge.longest c.if-edge-t.longest d c.loop-edge-test.true w.if-edge-t.false w.longest-is) ∙ c.loop-edge.invariant.left;
        low = λ most each. omega (arith, c.loop-edge.invariant.low most each);
      }
    ]

pub returns-clause-value : goal.returns-clause-value
returns-clause-value c =
    let J = job_of c.args.job.now in
    let f = λ (e : Edge). e.volume + slice_index c.args.levels.now e.to in
    sym (rest_none f c.args.t J.edges c.loop-edge.edge-index c.loop-edge.longest (omega (arith, ap length c.edges-edge-items.ensures))) ∙ c.loop-edge.invariant.left
