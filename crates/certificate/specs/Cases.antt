-- Cases that were worked out by hand: a drawn plan and two spoilt ones, a fill, earliest starts, and two tasks on one machine.
use Rattle.std.specs.Prelude.{◌≡◌, ℕ, ◌-◌, List, [], ◌∷◌, Some, None}
use Rattle.model.specs.Bookings.{link_resource}
use Rattle.model.specs.Data.{JobData, NetData}
use Rattle.model.specs.Plans.{PlanData, blank_plan, with_task, with_starts}
use Rattle.model.specs.declared.booking.Booking.{Booking}
use Rattle.timetable.specs.Cases.{busy_table}
use Rattle.timetable.specs.Earliest.{earliest}
use Rattle.timetable.specs.Tables.{empty_table, span}
use Rattle.planner.specs.Bookings.{plan_bookings}
use Rattle.planner.specs.Cases.{job, net, ways, nowhere, machine_of, at, blank}
use Rattle.planner.specs.Trials.{Sheet, BeingDrawn}
use Rattle.marker.specs.Verdicts.{verdict}
use Rattle.marker.specs.declared.verdict.Rule.TheVariants.{Causality, Arrival, Machines}
use Rattle.marker.specs.declared.verdict.Verdict.{Verdict}
use Rattle.marker.specs.declared.verdict.Verdict.TheVariants.{Lawful, Broken}
use Rattle.certificate.specs.Calls.{after, told}
use Rattle.certificate.specs.Sheets.{plan_on}
use Rattle.certificate.specs.declared.call.Answer.{Answer}
use Rattle.certificate.specs.declared.call.Answer.TheVariants.{Finish, Length}
use Rattle.certificate.specs.declared.call.Asked.{Asked}
use Rattle.certificate.specs.declared.call.Call.{Call}
use Rattle.certificate.specs.declared.call.Call.TheVariants.{Place, Fill}

-- a resource taken from a tick to another
abbrev pub from_to : ℕ → ℕ → ℕ → Booking
from_to r start finish = span r start (finish - start)

abbrev pub unanswered : Call → Asked
unanswered call = record { call = call; answer = None }

abbrev pub answered : Call → Answer → Asked
answered call answer = record { call = call; answer = Some answer }

-- a new sheet, after some calls
abbrev pub drawn : List Call → Sheet
drawn calls = after job net ways (BeingDrawn blank) calls

-- the plan of three tasks on three machines in a row
abbrev pub first_plan : PlanData
first_plan = plan_on (drawn (Place 0 0 ∷ Place 1 1 ∷ Place 2 2 ∷ []))

-- the same plan with the second transfer on its second link from another tick
abbrev pub second_link_from : ℕ → PlanData
second_link_from start = with_starts first_plan 1 (8 ∷ start ∷ [])

abbrev pub filled_plan : PlanData
filled_plan = plan_on (drawn (Fill ∷ []))

-- two tasks of 5 and 2 ticks on one machine, the second from a tick
abbrev pub two_tasks : JobData
two_tasks = record { works = 5 ∷ 2 ∷ []; edges = [] }

abbrev pub one_machine : NetData
one_machine = record { stations = machine_of 1 ∷ []; links = [] }

abbrev pub second_task_from : ℕ → Verdict
second_task_from start = verdict two_tasks one_machine nowhere (with_task (with_task blank_plan 0 (at 0 0)) 1 (at 0 start))

pub record WorkedCases : Type 0 where
  pub placed : told job net ways (BeingDrawn blank) (unanswered (Place 0 0) ∷ unanswered (Place 1 1) ∷ unanswered (Place 2 2) ∷ []) ≡ answered (Place 0 0) (Finish 4) ∷ answered (Place 1 1) (Finish 11) ∷ answered (Place 2 2) (Finish 17) ∷ []
  pub bookings : plan_bookings job net ways first_plan ≡ from_to 0 0 4 ∷ from_to (link_resource 0) 4 8 ∷ from_to 1 8 11 ∷ from_to (link_resource 0) 8 14 ∷ from_to (link_resource 1) 11 14 ∷ from_to 2 14 17 ∷ []
  pub lawful : verdict job net ways first_plan ≡ Lawful
  pub done_before_the_first_link : verdict job net ways (second_link_from 10) ≡ Broken Causality 1 1
  pub done_after_its_task_began : verdict job net ways (second_link_from 12) ≡ Broken Arrival 1 0
  pub filled : told job net ways (BeingDrawn blank) (unanswered Fill ∷ []) ≡ answered Fill (Length 7) ∷ []
  pub all_on_one : plan_bookings job net ways filled_plan ≡ from_to 1 0 2 ∷ from_to 1 2 5 ∷ from_to 1 5 7 ∷ []
  pub fills_the_gap : earliest busy_table 0 0 6 ≡ Some 4
  pub past_the_gap : earliest busy_table 0 0 7 ≡ Some 14
  pub up_to_the_horizon : earliest (empty_table 64 8) 0 0 64 ≡ Some 0
  pub past_the_horizon : earliest (empty_table 64 8) 0 1 64 ≡ None
  pub touching : second_task_from 5 ≡ Lawful
  pub sharing_a_tick : second_task_from 4 ≡ Broken Machines 0 1
