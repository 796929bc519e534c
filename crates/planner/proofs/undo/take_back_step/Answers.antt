use Rattle.std.proofs.Common.{◌≡◌, ◌-◌, Some, None, is_ok, length, sym, ap, ◌∙◌}
use Rattle.std.specs.List.{slice_get}
use Rattle.model.specs.Data.{job_of, net_of}
use Rattle.model.specs.Plans.{plan_of, last_step, with_task, without_last_step}
use Rattle.planner.specs.Bookings.{step_bookings}
use Rattle.planner.specs.Booked.{first_bookings}
use Rattle.planner.specs.Drawing.{without_transfers}
use Rattle.planner.specs.States.{state}
use Rattle.planner.proofs.Undoing.{row_cleared, step_undone}
use Rattle.planner.proofs.undo.take_back_step.Goals as goal

pub returns : goal.returns
returns g c =
    let J = job_of c.args.job.now in
    let N = net_of (g.R.Routes.over c.args.routes.now) in
    let ρ = g.R.Routes.route c.args.routes.now in
    let P = plan_of c.args.plan.now in
    let T = g.T.Askable.meaning c.args.table.now in
    let t = c.in-Some.task in
    let last : last_step P ≡ Some t = ap (λ ts. slice_get ts (length ts - 1)) (sym c.steps.ensures.value) ∙ sym c.last.ensures.value ∙ sym c.in-Some.ensures in
    let newest : c.step_length-newest.result ≡ length (step_bookings J N ρ P t) = rw (← c.new.ensures.routes, ← c.new.ensures.job, ← c.new.ensures.plan) c.step_length-newest.ensures in
    let table : g.T.Askable.meaning c.roll_back.new.table ≡ first_bookings (length T.bookings - length (step_bookings J N ρ P t)) T =
    c.roll_back.ensures ∙ ap (λ n. first_bookings n T) (c.saturating_sub.ensures ∙ ap (λ n. n - c.step_length-newest.result) c.count.ensures ∙ ap (λ n. length T.bookings - n) newest)
    in
    let cleared : plan_of c.clear_task.new.self ≡ with_task (without_transfers J t P) t None =
    row_cleared (plan_of c.clear_transfers.new.plan) (plan_of c.clear_task.new.self) t (is_ok c.clear_task.result) c.clear_task.ensures.fits c.clear_task.ensures.plan c.clear_transfers.new.plan.task_rows
    ∙ ap (λ Q. with_task Q t None) c.clear_transfers.ensures
    in
    let plan : plan_of c.remove_step.new.self ≡ without_last_step (with_task (without_transfers J t P) t None) = c.remove_step.ensures.plan ∙ ap without_last_step cleared in
    step_undone J N ρ (state c.args.sheet.now.count c.args.plan.now T) t _ _ _ (last_step P) c.saturating_sub-sheet.ensures plan table last
