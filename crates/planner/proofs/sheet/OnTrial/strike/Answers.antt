-- What taking back answers and leaves is what striking does.
use Rattle.std.proofs.Common.{ℕ, ap, ◌∙◌}
use Rattle.model.specs.Data.{job_of, net_of}
use Rattle.planner.specs.Outcomes.{DrawState, Outcome}
use Rattle.planner.specs.States.{state}
use Rattle.planner.specs.Trials.{Sheet, BeingDrawn, strike}
use Rattle.planner.proofs.sheet.OnTrial.strike.Goals as goal

struck : Outcome ℕ DrawState → Outcome ℕ Sheet
struck o = record { answer = o.answer; left = BeingDrawn o.left }

pub returns : goal.returns
unfolding struck
returns g c =
    let J = job_of c.args.job.now in
    let N = net_of (g.R.Routes.over c.args.routes.now) in
    let ρ = g.R.Routes.route c.args.routes.now in
    ap struck c.take_back-answer.ensures ∙ ap (λ n. strike J N ρ (state n c.args.plan.now (g.T.Askable.meaning c.args.table.now))) c.keep-sheet.ensures.count
