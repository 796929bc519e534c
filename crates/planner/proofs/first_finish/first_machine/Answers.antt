-- Each machine leaves the state as it was, and the earlier finish is kept.
use Rattle.std.proofs.Common.{◌≡◌, ◌∙◌, sym, subst, ap, arith, rules, tests, Some, refl, ◌<◌, ◌≤◌}
use Rattle.std.specs.Option.{option_map}
use Rattle.model.specs.Data.{job_of, net_of, station_count}
use Rattle.model.specs.declared.network.Network.{Network}
use Rattle.planner.specs.States.{state, Ordered}
use Rattle.planner.specs.declared.first_finish.Finish.{Finish}
use Rattle.planner.proofs.FirstFinishes.{ends}
use Rattle.planner.proofs.FirstMachine.{tick_of, next_first, weighed_begin, weighed_next, weighed_end}
use Rattle.planner.proofs.first_finish.first_machine.Goals as goal
use Rattle.planner.proofs.first_finish.first_machine.Goals.{in-Some, in_default}

pub loop-machine-init : goal.loop-machine-init
loop-machine-init g c = record {
  unchanged = refl;
  weighed = weighed_begin (job_of c.args.job.now) (net_of (g.R.Routes.over c.args.routes.now)) (g.R.Routes.route c.args.routes.now) (state c.args.sheet.now.count c.args.plan.now (g.T.Askable.meaning c.args.table.now)) c.args.task;
}

pub finish_on-requires : goal.finish_on-requires
finish_on-requires g c =
    subst (Ordered (job_of c.args.job.now) (net_of (g.R.Routes.over c.args.routes.now)) (g.R.Routes.route c.args.routes.now)) (sym c.loop-machine.invariant.unchanged) c.requires

pub loop-machine-preserved : goal.loop-machine-preserved
loop-machine-preserved g c =
    let J = job_of c.args.job.now in
    let N = net_of (g.R.Routes.over c.args.routes.now) in
    let ρ = g.R.Routes.route c.args.routes.now in
    let S = state c.args.sheet.now.count c.args.plan.now (g.T.Askable.meaning c.args.table.now) in
    let t = c.args.task in
    let i = c.loop-machine.machine in
    let first = c.loop-machine.first in
    let count = ap (λ (n : Network). station_count (net_of n)) c.network.ensures in
    let within : i < station_count N = omega (arith, c.loop-machine-test.true, c.station_count-machine-end.ensures.value, count) in
    let tick = c.finish_on.ensures.finish ∙ ap (λ V. tick_of (ends J N ρ V t i)) c.loop-machine.invariant.unchanged in
    let next = λ (is : c.match-finish_on.first ≡ next_first first i c.finish_on.result). weighed_next J N ρ S t i first c.match-finish_on.first c.finish_on.result within c.loop-machine.invariant.weighed tick is in
    elim c.match-finish_on.branch [
      | in-Some w ↦ record {
        unchanged = c.finish_on.ensures.unchanged ∙ c.loop-machine.invariant.unchanged;
        weighed = next (w.first-is ∙ ap Some w.earlier.ensures ∙ sym (ap (next_first first i) w.in-Some.is));
      }
      | in_default w ↦ record {
        unchanged = c.finish_on.ensures.unchanged ∙ c.loop-machine.invariant.unchanged;
        weighed = next (w.first-is ∙ sym (ap (next_first first i) w.in_default.is));
      }
    ]

pub returns-clause-first : goal.returns-clause-first
returns-clause-first g c =
    let N = net_of (g.R.Routes.over c.args.routes.now) in
    let count = ap (λ (n : Network). station_count (net_of n)) c.network.ensures in
    let all : station_count N ≤ c.loop-machine.machine = omega (arith, c.loop-machine-test.false, c.station_count-machine-end.ensures.value, count) in
    let machine : c.map.result ≡ option_map (λ (f : Finish). f.machine) c.loop-machine.first = search (rules, tests) in
    weighed_end (job_of c.args.job.now) N (g.R.Routes.route c.args.routes.now) (state c.args.sheet.now.count c.args.plan.now (g.T.Askable.meaning c.args.table.now)) c.args.task
    c.loop-machine.machine c.loop-machine.first c.map.result all c.loop-machine.invariant.weighed machine

pub returns-clause-unchanged : goal.returns-clause-unchanged
returns-clause-unchanged g c = c.loop-machine.invariant.unchanged
