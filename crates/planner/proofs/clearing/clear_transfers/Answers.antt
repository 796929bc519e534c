use Rattle.std.proofs.Common.{◌≡◌, ◌+◌, ◌<◌, [], length, sym, ap, ◌∙◌, arith}
use Rattle.model.specs.Plans.{plan_of, with_starts}
use Rattle.model.specs.declared.job.Edge.{Edge}
use Rattle.model.proofs.Jobs.{of_job}
use Rattle.planner.proofs.Incoming.{into_from, into_here, into_skip, into_end, emptied, row_written}
use Rattle.planner.proofs.clearing.clear_transfers.Goals as goal
use Rattle.planner.proofs.clearing.clear_transfers.Goals.{then-edge-task, else-edge-task}

no_edge : Edge
no_edge = record { from = 0; to = 0; volume = 0 }

pub loop-i-init : goal.loop-i-init
loop-i-init c = ap (λ es. emptied (plan_of c.args.plan.now) (into_from es c.args.task 0)) c.edges-edge-items.ensures

pub loop-i-preserved : goal.loop-i-preserved
loop-i-preserved c =
    let es = c.edges-edge-items.result.now in
    let t = c.args.task in
    let i = c.loop-i.i in
    let P = plan_of c.loop-i.plan in
    elim c.if-edge-task.branch [
      | then-edge-task w ↦ (
          let within : i < 224 = omega (arith, (of_job c.args.job.now).few_edges, ap length c.edges-edge-items.ensures) in
          let here : plan_of c.if-edge-task.plan ≡ with_starts P i [] = ap plan_of w.plan-is ∙ row_written P (plan_of w.set_transfer.new.self) i [] _ _ w.set_transfer.ensures.plan w.set_transfer.ensures.fits within w.new.ensures in
          ap (λ Q. emptied Q (into_from es t (i + 1))) here
          ∙ sym (ap (emptied P) (into_here es t i _ c.loop-i-test.true w.if-edge-task.true))
          ∙ c.loop-i.invariant)
      | else-edge-task w ↦ (
          ap (λ p. emptied (plan_of p) (into_from es t (i + 1))) w.plan-is
          ∙ sym (ap (emptied P) (into_skip es t i _ c.loop-i-test.true w.if-edge-task.false))
          ∙ c.loop-i.invariant)
    ]

pub returns : goal.returns
returns c =
    sym (ap (emptied (plan_of c.loop-i.plan)) (into_end c.edges-edge-items.result.now c.args.task c.loop-i.i c.loop-i-test.false)) ∙ c.loop-i.invariant
