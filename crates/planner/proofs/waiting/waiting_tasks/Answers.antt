-- A task that is not placed is pushed, and there is room for all.
use Rattle.std.proofs.Common.{◌≡◌, ℕ, ◌∙◌, not, [], IsPermutation, length, ap, sym, subst, arith, slice_index, is_some}
use Rattle.std.proofs.lemmas.List.Sorted.{IsPermutation-refl}
use Rattle.model.specs.Data.{job_of}
use Rattle.model.specs.Plans.{plan_of}
use Rattle.queue.specs.Items.{items}
use Rattle.planner.specs.Levels.{bottom_level}
use Rattle.planner.proofs.WaitingTasks.{Held, ok_unless, on_ok, held_placed, held_unplaced, held_few}
use Rattle.planner.proofs.waiting.waiting_tasks.Goals as goal
use Rattle.planner.proofs.waiting.waiting_tasks.Goals.{then-is_none, else-is_none}

pub loop-task-init : goal.loop-task-init
loop-task-init c = record { held = subst (λ ws. IsPermutation [] ws) (sym c.new-queue.ensures.items) (IsPermutation-refl []); same_room = c.new-queue.ensures.room ∙ c.requires }

pub unwrap-requires : goal.unwrap-requires
unwrap-requires c =
    let J = job_of c.args.job.now in
    let few = held_few (bottom_level J) (plan_of c.args.plan.now) c.loop-task.task (items c.loop-task.queue) c.loop-task.invariant.held in
    ok_unless c.push.result (λ err. let full = c.push.ensures.full.0 err in omega (arith, c.loop-task.invariant.same_room))

pub loop-task-preserved : goal.loop-task-preserved
loop-task-preserved c =
    let J = job_of c.args.job.now in
    let P = plan_of c.args.plan.now in
    let t = c.loop-task.task in
    elim c.if-is_none.branch [
      | then-is_none w ↦
          let open_task = sym c.task.ensures in
          let taken = on_ok w.push.result w.unwrap.result w.unwrap.ensures w.push.ensures.taken in
          let level = λ (k : ℕ). c.bottom_levels-levels.ensures k in
          rw w.queue-is (record {
            held = held_unplaced (bottom_level J) P t (items c.loop-task.queue) (items w.push.new.self) (record { level = slice_index c.bottom_levels-levels.result t; task = t })
                (ap (λ n. record { level = n; task = t }) (level t)) (ap is_some open_task ∙ c.is_none.ensures ∙ ap not w.if-is_none.true) c.loop-task.invariant.held taken;
            same_room = w.push.ensures.room ∙ c.loop-task.invariant.same_room;
          })
      | else-is_none w ↦
          rw w.queue-is (record {
            held = held_placed (bottom_level J) P t (items c.loop-task.queue) (ap is_some (sym c.task.ensures) ∙ c.is_none.ensures ∙ ap not w.if-is_none.false) c.loop-task.invariant.held;
            same_room = c.loop-task.invariant.same_room;
          })
    ]

pub returns : goal.returns
returns c =
    let J = job_of c.args.job.now in
    let all : c.loop-task.task ≡ length J.works = omega arith in
    subst (λ n. Held (bottom_level J) (plan_of c.args.plan.now) n (items c.loop-task.queue)) all c.loop-task.invariant.held
