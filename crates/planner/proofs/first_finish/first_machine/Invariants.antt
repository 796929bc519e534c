-- The machines that are left give the rest of the earliest.
use Rattle.std.proofs.Common.{◌≡◌}
use Rattle.model.specs.Data.{job_of, net_of}
use Rattle.planner.specs.States.{state}
use Rattle.planner.proofs.FirstMachine.{Weighed}
use Rattle.planner.proofs.first_finish.first_machine.Given as goal

abbrev pub invariant-loop-machine : goal.invariant-loop-machine
invariant-loop-machine g l = record {
  unchanged : state l.sheet.count l.plan (g.T.Askable.meaning l.table) ≡ state l.initial.sheet.count l.initial.plan (g.T.Askable.meaning l.initial.table);
  weighed : Weighed (job_of l.job) (net_of (g.R.Routes.over l.routes)) (g.R.Routes.route l.routes) (state l.initial.sheet.count l.initial.plan (g.T.Askable.meaning l.initial.table)) l.task l.machine l.first;
}
