use Rattle.std.proofs.Common.{◌≡◌, ◌+◌, true, false, is_ok, Some, None, Ok, Err, sym, ap, subst, ◌∙◌, rules, arith}
use Rattle.std.specs.List.{slice_get}
use Rattle.model.specs.Data.{job_of, net_of, is_machine}
use Rattle.model.specs.Lengths.{ticks}
use Rattle.model.specs.Plans.{plan_of, task_row, with_task, with_step, step_fits}
use Rattle.model.specs.declared.network.Station.TheVariants.{Machine}
use Rattle.planner.specs.Booked.{book_on, first_bookings, needs_refusal}
use Rattle.planner.specs.Calls.{left_with}
use Rattle.planner.specs.Outcomes.{outcome}
use Rattle.planner.specs.States.{state, Ordered}
use Rattle.planner.proofs.Given.{given_of, all_rows_of}
use Rattle.planner.proofs.PlaceSteps.{at_task, at_machine, at_row, at_needs, at_start, at_end, machine_known, task_known, rows_blank, steps_brought, step_has_room, task_fits, count_small, chosen, comes_out, needs_read}
use Rattle.planner.proofs.placing.place_in_order.Goals as goal

pub returns-in_default : goal.returns-in_default
returns-in_default g c =
    let S = state c.args.sheet.now.count c.args.plan.now (g.T.Askable.meaning c.args.table.now) in
    let J = job_of c.args.job.now in
    let n = g.R.Routes.over c.args.routes.now in
    let N = net_of n in
    let ρ = g.R.Routes.route c.args.routes.now in
    let t = c.args.task in
    let m = c.args.machine in
    ap (outcome S) (sym (at_task J N ρ S t m (sym c.in_default.ensures)))

pub returns-in_default-speed_of : goal.returns-in_default-speed_of
returns-in_default-speed_of g c =
    let S = state c.args.sheet.now.count c.args.plan.now (g.T.Askable.meaning c.args.table.now) in
    let J = job_of c.args.job.now in
    let n = g.R.Routes.over c.args.routes.now in
    let N = net_of n in
    let ρ = g.R.Routes.route c.args.routes.now in
    let t = c.args.task in
    let m = c.args.machine in
    let w = c.in-Some.work in
    let work : slice_get J.works t ≡ Some w = sym c.in-Some.ensures in
    let none : is_machine N m ≡ false = subst (λ x. is_machine (net_of x) m ≡ false) c.network.ensures c.in_default-speed_of.ensures in
    ap (outcome S) (sym (at_machine J N ρ S t m w work none))

pub returns-in_default-task : goal.returns-in_default-task
returns-in_default-task g c =
    let S = state c.args.sheet.now.count c.args.plan.now (g.T.Askable.meaning c.args.table.now) in
    let J = job_of c.args.job.now in
    let n = g.R.Routes.over c.args.routes.now in
    let N = net_of n in
    let ρ = g.R.Routes.route c.args.routes.now in
    let t = c.args.task in
    let m = c.args.machine in
    let w = c.in-Some.work in
    let work : slice_get J.works t ≡ Some w = sym c.in-Some.ensures in
    let v = c.in-Some-speed_of.speed in
    let on : slice_get N.stations m ≡ Some (Machine v) = subst (λ x. slice_get (net_of x).stations m ≡ Some (Machine v)) c.network.ensures c.in-Some-speed_of.ensures in
    ap (outcome S) (sym (at_row J N ρ S t m w work v on c.in_default-task.field-0 (sym c.in_default-task.ensures)))

pub returns-in_err-check_needs : goal.returns-in_err-check_needs
returns-in_err-check_needs g c =
    let S = state c.args.sheet.now.count c.args.plan.now (g.T.Askable.meaning c.args.table.now) in
    let J = job_of c.args.job.now in
    let n = g.R.Routes.over c.args.routes.now in
    let N = net_of n in
    let ρ = g.R.Routes.route c.args.routes.now in
    let t = c.args.task in
    let m = c.args.machine in
    let w = c.in-Some.work in
    let work : slice_get J.works t ≡ Some w = sym c.in-Some.ensures in
    let v = c.in-Some-speed_of.speed in
    let on : slice_get N.stations m ≡ Some (Machine v) = subst (λ x. slice_get (net_of x).stations m ≡ Some (Machine v)) c.network.ensures c.in-Some-speed_of.ensures in
    let blank : task_row S.plan t ≡ None = sym c.in-None.ensures in
    let x = c.in_err-check_needs.field-0.0 in
    let was : c.from_residual.result ≡ Err x = search rules in
    let why : needs_refusal J ρ S.plan S.table t m ≡ Some x = sym (c.in_err-check_needs.ensures ∙ needs_read (g.R.Routes.route) S.table t m c.new.ensures.job c.new.ensures.routes c.new.ensures.plan) in
    ap (λ r. left_with r S) was ∙ ap (outcome S) (sym (at_needs J N ρ S t m w work v on blank x why))

pub book_task-requires-clause-station : goal.book_task-requires-clause-station
book_task-requires-clause-station g c =
    let S = state c.args.sheet.now.count c.args.plan.now (g.T.Askable.meaning c.args.table.now) in
    let J = job_of c.args.job.now in
    let n = g.R.Routes.over c.args.routes.now in
    let N = net_of n in
    let ρ = g.R.Routes.route c.args.routes.now in
    let t = c.args.task in
    let m = c.args.machine in
    let w = c.in-Some.work in
    let work : slice_get J.works t ≡ Some w = sym c.in-Some.ensures in
    let v = c.in-Some-speed_of.speed in
    let on : slice_get N.stations m ≡ Some (Machine v) = subst (λ x. slice_get (net_of x).stations m ≡ Some (Machine v)) c.network.ensures c.in-Some-speed_of.ensures in
    machine_known N m v on

pub book_task-requires-clause-blank : goal.book_task-requires-clause-blank
book_task-requires-clause-blank g c =
    let S = state c.args.sheet.now.count c.args.plan.now (g.T.Askable.meaning c.args.table.now) in
    let J = job_of c.args.job.now in
    let n = g.R.Routes.over c.args.routes.now in
    let N = net_of n in
    let ρ = g.R.Routes.route c.args.routes.now in
    let t = c.args.task in
    let m = c.args.machine in
    let given = given_of c.args.job.now n ρ (g.met.R.Routes.keeps c.args.routes.now) in
    let ordered : Ordered J N ρ S = record { rows = all_rows_of c.args.plan.now; tested = c.requires } in
    let blank : task_row S.plan t ≡ None = sym c.in-None.ensures in
    rows_blank J N ρ given S ordered t blank

pub unwrap-requires : goal.unwrap-requires
unwrap-requires g c =
    let S = state c.args.sheet.now.count c.args.plan.now (g.T.Askable.meaning c.args.table.now) in
    let J = job_of c.args.job.now in
    let n = g.R.Routes.over c.args.routes.now in
    let N = net_of n in
    let ρ = g.R.Routes.route c.args.routes.now in
    let t = c.args.task in
    let m = c.args.machine in
    let w = c.in-Some.work in
    let work : slice_get J.works t ≡ Some w = sym c.in-Some.ensures in
    let v = c.in-Some-speed_of.speed in
    let on : slice_get N.stations m ≡ Some (Machine v) = subst (λ x. slice_get (net_of x).stations m ≡ Some (Machine v)) c.network.ensures c.in-Some-speed_of.ensures in
    let given = given_of c.args.job.now n ρ (g.met.R.Routes.keeps c.args.routes.now) in
    let ordered : Ordered J N ρ S = record { rows = all_rows_of c.args.plan.now; tested = c.requires } in
    let blank : task_row S.plan t ≡ None = sym c.in-None.ensures in
    let ok : is_ok c.set_task.result ≡ true = c.set_task.ensures.fits ∙ task_fits J N ρ given S ordered t blank (task_known J t w work) m c.in-Ok.start (machine_known N m v on) in
    search rules

pub unwrap-requires-in-Ok : goal.unwrap-requires-in-Ok
unwrap-requires-in-Ok g c =
    let S = state c.args.sheet.now.count c.args.plan.now (g.T.Askable.meaning c.args.table.now) in
    let J = job_of c.args.job.now in
    let n = g.R.Routes.over c.args.routes.now in
    let N = net_of n in
    let ρ = g.R.Routes.route c.args.routes.now in
    let t = c.args.task in
    let m = c.args.machine in
    let w = c.in-Some.work in
    let work : slice_get J.works t ≡ Some w = sym c.in-Some.ensures in
    let v = c.in-Some-speed_of.speed in
    let on : slice_get N.stations m ≡ Some (Machine v) = subst (λ x. slice_get (net_of x).stations m ≡ Some (Machine v)) c.network.ensures c.in-Some-speed_of.ensures in
    let given = given_of c.args.job.now n ρ (g.met.R.Routes.keeps c.args.routes.now) in
    let ordered : Ordered J N ρ S = record { rows = all_rows_of c.args.plan.now; tested = c.requires } in
    let blank : task_row S.plan t ≡ None = sym c.in-None.ensures in
    let s = c.in-Ok.start in
    let Q = plan_of c.book_task.new.plan in
    let set : plan_of c.set_task.new.self ≡ with_task Q t (Some (record { station = m; start = s })) =
    chosen _ _ _ Q _ c.set_task.ensures.plan c.set_task.ensures.fits (task_fits J N ρ given S ordered t blank (task_known J t w work) m s (machine_known N m v on))
    in
    let steps : (plan_of c.set_task.new.self).steps ≡ S.plan.steps = ap (λ X. X.steps) set ∙ steps_brought J t S.plan Q c.book_task.ensures.rows in
    let fits : step_fits (plan_of c.set_task.new.self) t ≡ true = step_has_room J N ρ given S ordered t blank (task_known J t w work) (plan_of c.set_task.new.self) steps in
    let ok : is_ok c.add_step.result ≡ true = c.add_step.ensures.fits ∙ fits in
    search rules

pub overflow_add-sheet : goal.overflow_add-sheet
overflow_add-sheet g c =
    let S = state c.args.sheet.now.count c.args.plan.now (g.T.Askable.meaning c.args.table.now) in
    let J = job_of c.args.job.now in
    let n = g.R.Routes.over c.args.routes.now in
    let N = net_of n in
    let ρ = g.R.Routes.route c.args.routes.now in
    let t = c.args.task in
    let m = c.args.machine in
    let w = c.in-Some.work in
    let work : slice_get J.works t ≡ Some w = sym c.in-Some.ensures in
    let v = c.in-Some-speed_of.speed in
    let on : slice_get N.stations m ≡ Some (Machine v) = subst (λ x. slice_get (net_of x).stations m ≡ Some (Machine v)) c.network.ensures c.in-Some-speed_of.ensures in
    let given = given_of c.args.job.now n ρ (g.met.R.Routes.keeps c.args.routes.now) in
    let ordered : Ordered J N ρ S = record { rows = all_rows_of c.args.plan.now; tested = c.requires } in
    let blank : task_row S.plan t ≡ None = sym c.in-None.ensures in
    let small = count_small J N ρ given S ordered t blank (task_known J t w work) in
    omega (arith, small)

pub returns-in-Ok : goal.returns-in-Ok
returns-in-Ok g c =
    let S = state c.args.sheet.now.count c.args.plan.now (g.T.Askable.meaning c.args.table.now) in
    let J = job_of c.args.job.now in
    let n = g.R.Routes.over c.args.routes.now in
    let N = net_of n in
    let ρ = g.R.Routes.route c.args.routes.now in
    let t = c.args.task in
    let m = c.args.machine in
    let w = c.in-Some.work in
    let work : slice_get J.works t ≡ Some w = sym c.in-Some.ensures in
    let v = c.in-Some-speed_of.speed in
    let on : slice_get N.stations m ≡ Some (Machine v) = subst (λ x. slice_get (net_of x).stations m ≡ Some (Machine v)) c.network.ensures c.in-Some-speed_of.ensures in
    let given = given_of c.args.job.now n ρ (g.met.R.Routes.keeps c.args.routes.now) in
    let ordered : Ordered J N ρ S = record { rows = all_rows_of c.args.plan.now; tested = c.requires } in
    let blank : task_row S.plan t ≡ None = sym c.in-None.ensures in
    let needs : needs_refusal J ρ S.plan S.table t m ≡ None = sym (c.in_ok-check_needs.ensures ∙ needs_read (g.R.Routes.route) S.table t m c.new.ensures.job c.new.ensures.routes c.new.ensures.plan) in
    let s = c.in-Ok.start in
    let Q = plan_of c.book_task.new.plan in
    let set : plan_of c.set_task.new.self ≡ with_task Q t (Some (record { station = m; start = s })) =
    chosen _ _ _ Q _ c.set_task.ensures.plan c.set_task.ensures.fits (task_fits J N ρ given S ordered t blank (task_known J t w work) m s (machine_known N m v on))
    in
    let steps : (plan_of c.set_task.new.self).steps ≡ S.plan.steps = ap (λ X. X.steps) set ∙ steps_brought J t S.plan Q c.book_task.ensures.rows in
    let fits : step_fits (plan_of c.set_task.new.self) t ≡ true = step_has_room J N ρ given S ordered t blank (task_known J t w work) (plan_of c.set_task.new.self) steps in
    let U = g.T.Askable.meaning c.book_task.new.table in
    let added : plan_of c.add_step.new.self ≡ with_step (with_task Q t (Some (record { station = m; start = s }))) t =
    chosen _ _ _ (plan_of c.set_task.new.self) _ c.add_step.ensures.plan c.add_step.ensures.fits fits ∙ ap (λ X. with_step X t) set
    in
    let answer : Ok (s, Q, U) ≡ book_on J N ρ S.plan S.table t m (ticks w v) = c.in-Ok.ensures.answer ∙ ap (book_on J N ρ S.plan S.table t m) c.ticks-duration.ensures.value in
    let sum : c.from.result + c.from-in-Ok.result ≡ s + ticks w v = ap (λ k. k + c.from-in-Ok.result) c.from.ensures ∙ ap (λ k. s + k) (c.from-in-Ok.ensures ∙ c.ticks-duration.ensures.value) in
    comes_out S (s + ticks w v) _ (S.count + 1) _ _ U sum added
    ∙ ap (outcome S) (sym (at_end J N ρ S t m w work v on blank needs s Q U answer))

pub returns-in-Err : goal.returns-in-Err
returns-in-Err g c =
    let S = state c.args.sheet.now.count c.args.plan.now (g.T.Askable.meaning c.args.table.now) in
    let J = job_of c.args.job.now in
    let n = g.R.Routes.over c.args.routes.now in
    let N = net_of n in
    let ρ = g.R.Routes.route c.args.routes.now in
    let t = c.args.task in
    let m = c.args.machine in
    let w = c.in-Some.work in
    let work : slice_get J.works t ≡ Some w = sym c.in-Some.ensures in
    let v = c.in-Some-speed_of.speed in
    let on : slice_get N.stations m ≡ Some (Machine v) = subst (λ x. slice_get (net_of x).stations m ≡ Some (Machine v)) c.network.ensures c.in-Some-speed_of.ensures in
    let blank : task_row S.plan t ≡ None = sym c.in-None.ensures in
    let needs : needs_refusal J ρ S.plan S.table t m ≡ None = sym (c.in_ok-check_needs.ensures ∙ needs_read (g.R.Routes.route) S.table t m c.new.ensures.job c.new.ensures.routes c.new.ensures.plan) in
    let x = c.in-Err.refusal in
    let U = g.T.Askable.meaning c.book_task.new.table in
    let why : Err x ≡ book_on J N ρ S.plan S.table t m (ticks w v) = c.in-Err.ensures.answer ∙ ap (book_on J N ρ S.plan S.table t m) c.ticks-duration.ensures.value in
    let back : g.T.Askable.meaning c.roll_back.new.table ≡ S.table = c.roll_back.ensures ∙ ap (λ k. first_bookings k U) c.count-count.ensures ∙ c.book_task.ensures.kept in
    let cleared : plan_of c.clear_transfers.new.plan ≡ S.plan = c.clear_transfers.ensures ∙ c.book_task.ensures.rows in
    ap (λ T. left_with (Err x) (record { count = S.count; plan = plan_of c.clear_transfers.new.plan; table = T })) back
    ∙ ap (λ X. left_with (Err x) (record { count = S.count; plan = X; table = S.table })) cleared
    ∙ ap (outcome S) (sym (at_start J N ρ S t m w work v on blank needs x why))
