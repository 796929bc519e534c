use Rattle.std.proofs.Common.{◌≡◌, ◌<◌, false, not, ◌&&◌, get_or, length, is_some, sym, ap, subst, ◌∙◌, arith}
use Rattle.std.specs.List.{list_all}
use Rattle.model.specs.Plans.{plan_of}
use Rattle.planner.specs.Edges.{is_placed}
use Rattle.planner.specs.Order.{all_differ}
use Rattle.planner.proofs.OrderRows.{none_so_far, placed_past, step_unplaced, step_again, step_marked}
use Rattle.planner.proofs.order.steps.StepSet.of.Goals as goal
use Rattle.planner.proofs.order.steps.StepSet.of.Goals.{then-task-ge-TASK_ROWS-via-then-task-ge-TASK_ROWS, then-task-ge-TASK_ROWS-via-else-task-ge-TASK_ROWS+then-marks-task, then-task-ge-TASK_ROWS-via-else-task-ge-TASK_ROWS+else-marks-task+then-is_none}

pub loop-task-init : goal.loop-task-init
loop-task-init c = none_so_far (plan_of c.args.plan.now) c.steps-steps.result.now

pub returns-then-task-ge-TASK_ROWS : goal.returns-then-task-ge-TASK_ROWS
returns-then-task-ge-TASK_ROWS c =
    let P = plan_of c.args.plan.now in
    let ts = c.steps-steps.result.now in
    let i = c.loop-task.task-index in
    let inside : i < length ts = omega arith in
    let result : (list_all (is_placed P) ts && all_differ ts) ≡ false =
    elim c.then-task-ge-TASK_ROWS.branch [
      | then-task-ge-TASK_ROWS-via-then-task-ge-TASK_ROWS w ↦ step_unplaced P ts c.loop-task.marks i c.loop-task.invariant inside (placed_past P (get_or ts i 0) c.args.plan.now.task_rows w.if-task-ge-TASK_ROWS.true)
      | then-task-ge-TASK_ROWS-via-else-task-ge-TASK_ROWS+then-marks-task w ↦ step_again P ts c.loop-task.marks i c.loop-task.invariant inside w.if-marks-task.true
      | then-task-ge-TASK_ROWS-via-else-task-ge-TASK_ROWS+else-marks-task+then-is_none w ↦ step_unplaced P ts c.loop-task.marks i c.loop-task.invariant inside (ap is_some (sym w.task.ensures) ∙ w.is_none.ensures ∙ ap not w.if-is_none.true)
    ]
    in
    subst (λ us. (list_all (is_placed P) us && all_differ us) ≡ false) c.steps-steps.ensures.value result

pub loop-task-preserved : goal.loop-task-preserved
loop-task-preserved c =
    let P = plan_of c.args.plan.now in
    let ts = c.steps-steps.result.now in
    let i = c.loop-task.task-index in
    let inside : i < length ts = omega arith in
    step_marked P ts c.loop-task.marks i c.loop-task.invariant inside (ap is_some (sym c.task.ensures) ∙ c.is_none.ensures ∙ ap not c.if-is_none.false) c.if-task-ge-TASK_ROWS.false c.if-marks-task.false
