-- A worked plan, and one refusal for each cause.
use Rattle.std.specs.Prelude.{◌≡◌, ℕ, false, List, [], ◌∷◌, Some, None, Ok, Option, slice_index_or}
use Rattle.model.specs.Data.{JobData, NetData}
use Rattle.model.specs.Plans.{blank_plan, with_task, with_starts, with_step}
use Rattle.model.specs.Stations.{no_stations, with_station}
use Rattle.model.specs.declared.booking.Booking.{Booking}
use Rattle.model.specs.declared.network.Link.{Link}
use Rattle.model.specs.declared.network.Station.{Station}
use Rattle.model.specs.declared.network.Station.TheVariants.{Machine}
use Rattle.model.specs.declared.refusal.Refusal.TheVariants.{NoSuchTask, NotAMachine, AlreadyPlaced, PredecessorUnplaced, NothingToTakeBack, NoRoute, NoRoom, NoStart, EveryMachineRefuses, NotInOrder}
use Rattle.model.specs.declared.plan.Placement.{Placement}
use Rattle.routes.specs.Legs.{Ways}
use Rattle.routes.specs.declared.hop.Hop.{Hop}
use Rattle.timetable.specs.Tables.{Table, span}
use Rattle.planner.specs.Drawing.{new_state, new_sheet, place, take_back}
use Rattle.planner.specs.Filling.{fill}
use Rattle.planner.specs.Levels.{bottom_levels}
use Rattle.planner.specs.Order.{in_order}
use Rattle.planner.specs.Outcomes.{DrawState, Outcome, refused}
use Rattle.planner.specs.Transfers.{carry}
use Rattle.planner.specs.Trials.{BeingDrawn, BeingTried, try_place, keep, strike}

-- three tasks: task 0 feeds the other two
abbrev pub job : JobData
job = record { works = 4 ∷ 6 ∷ 3 ∷ []; edges = record { from = 0; to = 1; volume = 4 } ∷ record { from = 0; to = 2; volume = 6 } ∷ [] }

abbrev pub machine_of : ℕ → Station
machine_of rate = Machine (record { rate = rate })

abbrev pub link_between : ℕ → ℕ → ℕ → Link
link_between a b rate = record { stations = with_station (with_station no_stations a) b; speed = record { rate = rate } }

-- three machines in a row, the middle one twice as fast, and the second link too
abbrev pub net : NetData
net = record { stations = machine_of 1 ∷ machine_of 2 ∷ machine_of 1 ∷ []; links = link_between 0 1 1 ∷ link_between 1 2 2 ∷ [] }

abbrev pub hop : ℕ → ℕ → Hop
hop l s = record { link = l; station = s }

-- the routes from each station, in the order of the goals
abbrev pub routes_from : List (List (Option (List Hop)))
routes_from =
    (Some [] ∷ Some (hop 0 1 ∷ []) ∷ Some (hop 0 1 ∷ hop 1 2 ∷ []) ∷ [])
    ∷ (Some (hop 0 0 ∷ []) ∷ Some [] ∷ Some (hop 1 2 ∷ []) ∷ [])
    ∷ (Some (hop 1 1 ∷ hop 0 0 ∷ []) ∷ Some (hop 1 1 ∷ []) ∷ Some [] ∷ [])
    ∷ []

abbrev pub ways : Ways
ways a b = slice_index_or (slice_index_or routes_from a []) b None

-- routes that lead nowhere
abbrev pub nowhere : Ways
nowhere a b = None

-- a call that gives an answer and leaves a state
abbrev pub gives : {S : Type 0} → ℕ → S → Outcome ℕ S
gives n S = record { answer = Ok n; left = S }

abbrev pub at : ℕ → ℕ → Option Placement
at m s = Some (record { station = m; start = s })

-- a table with 64 ticks and room for 8 bookings
abbrev pub booked : List Booking → Table
booked bs = record { horizon = 64; most = 8; bookings = bs }

-- a new sheet, and the states after one, two and three places

abbrev pub blank : DrawState
blank = new_state (booked [])

abbrev pub one : DrawState
one = record {
  count = 1;
  plan = with_step (with_task blank_plan 0 (at 0 0)) 0;
  table = booked (span 0 0 4 ∷ []);
}

abbrev pub two : DrawState
two = record {
  count = 2;
  plan = with_step (with_starts (with_task one.plan 1 (at 1 8)) 0 (4 ∷ [])) 1;
  table = booked (span 0 0 4 ∷ span 16 4 4 ∷ span 1 8 3 ∷ []);
}

abbrev pub three : DrawState
three = record {
  count = 3;
  plan = with_step (with_starts (with_task two.plan 2 (at 2 14)) 1 (8 ∷ 11 ∷ [])) 2;
  table = booked (span 0 0 4 ∷ span 16 4 4 ∷ span 1 8 3 ∷ span 16 8 6 ∷ span 17 11 3 ∷ span 2 14 3 ∷ []);
}

pub record WorkedPlan : Type 0 where
  pub first : place job net ways blank 0 0 ≡ gives 4 one
  pub second : place job net ways one 1 1 ≡ gives 11 two
  pub third : place job net ways two 2 2 ≡ gives 17 three

-- a transfer of volume 6 over links of speeds 1, 2 and 1 from tick 0: on the second link it waits for the first
abbrev pub three_links : NetData
three_links = record { stations = []; links = link_between 0 1 1 ∷ link_between 1 2 2 ∷ link_between 2 3 1 ∷ [] }

pub record WorkedTransfers : Type 0 where
  pub waits : carry three_links 6 0 (hop 0 1 ∷ hop 1 2 ∷ hop 2 3 ∷ []) (booked []) ≡ Ok (record { starts = 0 ∷ 3 ∷ 0 ∷ []; arrival = 6; table = booked (span 16 0 6 ∷ span 17 3 3 ∷ span 18 0 6 ∷ []) })
  pub not_before_the_first : carry three_links 6 5 (hop 1 2 ∷ hop 2 3 ∷ []) (booked []) ≡ Ok (record { starts = 5 ∷ 5 ∷ []; arrival = 11; table = booked (span 17 5 3 ∷ span 18 5 6 ∷ []) })
  pub no_hop : carry three_links 6 5 [] (booked []) ≡ Ok (record { starts = []; arrival = 5; table = booked [] })

-- what is taken back leaves the state before it was placed, and a trial that is struck the state before the try
pub record WorkedUndoing : Type 0 where
  pub third : take_back job net ways three ≡ gives 2 two
  pub second : take_back job net ways two ≡ gives 1 one
  pub first : take_back job net ways one ≡ gives 0 blank
  pub tried : try_place job net ways two 2 2 ≡ gives 17 (BeingTried three)
  pub kept : keep three ≡ BeingDrawn three
  pub struck : strike job net ways three ≡ gives 2 (BeingDrawn two)
  pub refused_try : try_place job net ways one 0 0 ≡ refused (BeingDrawn one) (AlreadyPlaced 0)
  pub refused_strike : strike job net ways blank ≡ refused (BeingDrawn blank) NothingToTakeBack

-- three tasks that feed a fourth, two of them over the same link, which takes the lower edge first
abbrev pub join : JobData
join = record { works = 1 ∷ 1 ∷ 9 ∷ 1 ∷ []; edges = record { from = 1; to = 3; volume = 4 } ∷ record { from = 0; to = 3; volume = 6 } ∷ record { from = 2; to = 3; volume = 1 } ∷ [] }

abbrev pub one_feeder : DrawState
one_feeder = record {
  count = 1;
  plan = with_step (with_task blank_plan 0 (at 0 0)) 0;
  table = booked (span 0 0 1 ∷ []);
}

abbrev pub all_feeders : DrawState
all_feeders = record {
  count = 3;
  plan = with_step (with_step (with_task (with_task one_feeder.plan 1 (at 0 1)) 2 (at 1 0)) 1) 2;
  table = booked (span 0 0 1 ∷ span 0 1 1 ∷ span 1 0 5 ∷ []);
}

abbrev pub joined : DrawState
joined = record {
  count = 4;
  plan = with_step (with_starts (with_starts (with_task all_feeders.plan 3 (at 1 12)) 0 (2 ∷ [])) 1 (6 ∷ [])) 3;
  table = booked (span 0 0 1 ∷ span 0 1 1 ∷ span 1 0 5 ∷ span 16 2 4 ∷ span 16 6 6 ∷ span 1 12 1 ∷ []);
}

pub record WorkedJoin : Type 0 where
  pub placing : place join net ways all_feeders 3 1 ≡ gives 13 joined
  pub taking_back : take_back join net ways joined ≡ gives 3 all_feeders
  pub lowest_predecessor : place join net ways blank 3 1 ≡ refused blank (PredecessorUnplaced 0)
  pub next_predecessor : place join net ways one_feeder 3 1 ≡ refused one_feeder (PredecessorUnplaced 1)
  pub predecessor_before_route : place join net nowhere one_feeder 3 1 ≡ refused one_feeder (PredecessorUnplaced 1)
  pub lowest_edge : place join net nowhere all_feeders 3 1 ≡ refused all_feeders (NoRoute 0)
  pub higher_edge : place join net nowhere all_feeders 3 0 ≡ refused all_feeders (NoRoute 2)

-- fill puts all three tasks on the fast machine
abbrev pub full : DrawState
full = record {
  count = 3;
  plan = with_step (with_step (with_step (with_task (with_task (with_task blank_plan 0 (at 1 0)) 1 (at 1 2)) 2 (at 1 5)) 0) 1) 2;
  table = booked (span 1 0 2 ∷ span 1 2 3 ∷ span 1 5 2 ∷ []);
}

-- of the worked plan it places task 2 where task 0 is
abbrev pub two_and_more : DrawState
two_and_more = record {
  count = 3;
  plan = with_step (with_task two.plan 2 (at 0 4)) 2;
  table = booked (span 0 0 4 ∷ span 16 4 4 ∷ span 1 8 3 ∷ span 0 4 3 ∷ []);
}

pub record WorkedFill : Type 0 where
  pub levels : bottom_levels job ≡ 14 ∷ 6 ∷ 3 ∷ []
  pub from_blank : fill job net ways blank ≡ gives 7 full
  pub of_the_rest : fill job net ways two ≡ gives 11 two_and_more
  pub of_nothing : fill job net ways three ≡ gives 17 three

-- two equal machines with nothing between them, and tasks that feed nothing: the longest goes first, then the lower of the equal ones
abbrev pub twins : NetData
twins = record { stations = machine_of 1 ∷ machine_of 1 ∷ []; links = [] }

abbrev pub apart : JobData
apart = record { works = 3 ∷ 3 ∷ 5 ∷ []; edges = [] }

abbrev pub full_twins : DrawState
full_twins = record {
  count = 3;
  plan = with_step (with_step (with_step (with_task (with_task (with_task blank_plan 0 (at 1 0)) 1 (at 1 3)) 2 (at 0 0)) 2) 0) 1;
  table = booked (span 0 0 5 ∷ span 1 0 3 ∷ span 1 3 3 ∷ []);
}

pub record WorkedTies : Type 0 where
  pub filling : fill apart twins nowhere blank ≡ gives 6 full_twins

-- the state after one place in a timetable of another size

abbrev pub one_in : ℕ → ℕ → DrawState
one_in horizon most = record one { table = record { horizon = horizon; most = most; bookings = span 0 0 4 ∷ [] } }

pub record WorkedRefusals : Type 0 where
  pub no_such_task : place job net ways blank 3 0 ≡ refused blank (NoSuchTask 3)
  pub not_a_machine : place job net ways blank 0 3 ≡ refused blank (NotAMachine 3)
  pub already_placed : place job net ways one 0 1 ≡ refused one (AlreadyPlaced 0)
  pub predecessor_unplaced : place job net ways blank 2 0 ≡ refused blank (PredecessorUnplaced 0)
  pub nothing_to_take_back : take_back job net ways blank ≡ refused blank NothingToTakeBack
  pub no_route : place job net nowhere one 1 1 ≡ refused one (NoRoute 0)
  pub no_room : place job net ways (one_in 64 2) 1 1 ≡ refused (one_in 64 2) (NoRoom 2)
  pub just_room : (place job net ways (one_in 64 3) 1 1).answer ≡ Ok 11
  pub no_start_on_a_link : place job net ways (one_in 7 8) 1 1 ≡ refused (one_in 7 8) (NoStart 16)
  pub no_start_on_the_machine : place job net ways (one_in 10 8) 1 1 ≡ refused (one_in 10 8) (NoStart 1)
  pub every_machine_refuses : fill job net ways (one_in 6 8) ≡ refused (one_in 6 8) (EveryMachineRefuses 1)

-- a task is tested before its machine, and a missing route before the room; on one machine no route is needed
pub record WorkedOrderOfTests : Type 0 where
  pub task_first : place job net ways blank 3 3 ≡ refused blank (NoSuchTask 3)
  pub machine_next : place job net ways one 0 3 ≡ refused one (NotAMachine 3)
  pub route_before_room : place job net nowhere (one_in 64 1) 1 1 ≡ refused (one_in 64 1) (NoRoute 0)
  pub room_before_start : place job net ways (one_in 7 1) 1 1 ≡ refused (one_in 7 1) (NoRoom 2)
  pub on_one_machine : (place job net nowhere one 1 0).answer ≡ Ok 10

-- states that are not in order: each fails one of the tests, but for goal_no_step, which breaks rule C too
pub record WorkedDisorder : Type 0 where
  pub counts_differ : in_order job net ways (record two { count = 1 }) ≡ false
  pub step_unplaced : in_order job net ways (record blank { count = 1; plan = with_step blank_plan 0 }) ≡ false
  pub step_twice : in_order job net ways (record one { count = 2; plan = with_step one.plan 0; table = booked (span 0 0 4 ∷ span 0 0 4 ∷ []) }) ≡ false
  pub task_no_step : in_order job net ways (record one { plan = with_task one.plan 1 (at 0 9) }) ≡ false
  pub goal_no_step : in_order job net ways (record one { plan = with_starts one.plan 0 (4 ∷ []) }) ≡ false
  pub rule_a_task : in_order job net ways (record blank { count = 1; plan = with_step (with_task blank_plan 3 (at 0 0)) 3; table = booked (span 0 0 0 ∷ []) }) ≡ false
  pub rule_a_machine : in_order job net ways (record blank { count = 1; plan = with_step (with_task blank_plan 0 (at 3 0)) 0; table = booked (span 3 0 0 ∷ []) }) ≡ false
  pub rule_a_edge : in_order job net ways (record one { plan = with_starts one.plan 2 (0 ∷ []) }) ≡ false
  pub rule_b : in_order job net ways (record blank { count = 1; plan = with_step (with_task blank_plan 1 (at 1 0)) 1; table = booked (span 1 0 3 ∷ []) }) ≡ false
  pub rule_c_no_route : in_order job net nowhere (record two { table = booked (span 0 0 4 ∷ span 1 8 3 ∷ []) }) ≡ false
  pub rule_c_no_starts : in_order job net ways (record two { plan = with_starts two.plan 0 []; table = booked (span 0 0 4 ∷ span 1 8 3 ∷ []) }) ≡ false
  pub rule_c_one_machine : in_order job net ways (record { count = 2; plan = with_step (with_starts (with_task one.plan 1 (at 0 4)) 0 (4 ∷ [])) 1; table = booked (span 0 0 4 ∷ span 0 4 6 ∷ []) }) ≡ false
  pub other_resource : in_order job net ways (record one { table = booked (span 2 0 4 ∷ []) }) ≡ false
  pub other_start : in_order job net ways (record one { table = booked (span 0 1 4 ∷ []) }) ≡ false
  pub other_length : in_order job net ways (record one { table = booked (span 0 0 5 ∷ []) }) ≡ false
  pub fewer_bookings : in_order job net ways (record one { table = booked [] }) ≡ false
  pub more_bookings : in_order job net ways (record one { table = booked (span 0 0 4 ∷ span 2 0 1 ∷ []) }) ≡ false

-- what is not in order is refused by every call, and a timetable with bookings by a new sheet
pub record WorkedNotInOrder : Type 0 where
  pub placing : place job net ways (record two { count = 1 }) 3 3 ≡ refused (record two { count = 1 }) NotInOrder
  pub trying : try_place job net ways (record two { count = 1 }) 2 2 ≡ refused (BeingDrawn (record two { count = 1 })) NotInOrder
  pub taking_back : take_back job net ways (record blank { count = 1 }) ≡ refused (record blank { count = 1 }) NotInOrder
  pub filling : fill job net ways (record two { count = 1 }) ≡ refused (record two { count = 1 }) NotInOrder
  pub with_bookings : new_sheet one.plan one.table ≡ refused one.plan NotInOrder
  pub with_none : new_sheet one.plan (booked []) ≡ gives 0 blank_plan
