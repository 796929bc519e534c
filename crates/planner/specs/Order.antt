-- When sheet, plan and timetable belong together.
use Rattle.std.specs.Prelude.{ℕ, Bool, true, false, not, ◌&&◌, ◌||◌, List, [], ◌∷◌, length, drop, is_none, Some, None, Option, ◌==◌}
use Rattle.std.specs.List.{list_all, list_any, enumerate_from}
use Rattle.std.specs.Option.{option_map_or}
use Rattle.model.specs.Bookings.{is_same}
use Rattle.model.specs.Data.{JobData, NetData, task_count, is_machine}
use Rattle.model.specs.Plans.{PlanData, starts}
use Rattle.model.specs.declared.booking.Booking.{Booking}
use Rattle.routes.specs.Legs.{Ways, way}
use Rattle.routes.specs.declared.hop.Hop.{Hop}
use Rattle.planner.specs.Bookings.{plan_bookings}
use Rattle.planner.specs.Edges.{is_placed}
use Rattle.planner.specs.Outcomes.{DrawState}

abbrev pub is_empty : {X : Type 0} → List X → Bool
is_empty xs = length xs == 0

-- rule A: each filled row names a task or an edge of the job, and each placed task's station is a machine
abbrev pub keeps_rows : JobData → NetData → PlanData → Bool
keeps_rows J N P =
    list_all is_none (drop (task_count J) P.tasks)
    && list_all is_empty (drop (length J.edges) P.transfers)
    && list_all (λ row. option_map_or (λ p. is_machine N p.station) row true) P.tasks

-- rule B: each predecessor of a placed task is placed
abbrev pub keeps_predecessors : JobData → PlanData → Bool
keeps_predecessors J P = list_all (λ e. not (is_placed P e.to) || is_placed P e.from) J.edges

-- there is a route, and a start for each of its hops
abbrev pub start_for_each : Option (List Hop) → List ℕ → Bool
start_for_each None ss = false
start_for_each (Some hops) ss = length ss == length hops

-- rule C: an edge whose two tasks are placed on different machines has a route, and as many starts as hops; any other edge has no starts
abbrev pub keeps_routes : JobData → Ways → PlanData → Bool
keeps_routes J ρ P = list_all (λ (i, e). start_for_each (way ρ P e) (starts P i)) (enumerate_from 0 J.edges)

abbrev pub is_among : List ℕ → ℕ → Bool
is_among ts t = list_any (λ u. u == t) ts

-- no number stands twice
abbrev pub all_differ : List ℕ → Bool
all_differ [] = true
all_differ (t ∷ ts) = not (is_among ts t) && all_differ ts

-- each step is placed and stands once, and each placed task is a step
abbrev pub steps_are_placed : PlanData → Bool
steps_are_placed P =
    list_all (is_placed P) P.steps
    && all_differ P.steps
    && list_all (λ (t, row). is_none row || is_among P.steps t) (enumerate_from 0 P.tasks)

-- the goal of each filled transfer of the job is a step
abbrev pub goals_are_steps : JobData → PlanData → Bool
goals_are_steps J P = list_all (λ (i, e). is_empty (starts P i) || is_among P.steps e.to) (enumerate_from 0 J.edges)

-- a sheet that counts so many steps belongs to the plan: these are the placed tasks, and the goals of filled transfers are among them
abbrev pub belongs : JobData → ℕ → PlanData → Bool
belongs J count P = count == length P.steps && steps_are_placed P && goals_are_steps J P

abbrev pub are_same : List Booking → List Booking → Bool
are_same [] [] = true
are_same [] (b ∷ bs) = false
are_same (a ∷ cs) [] = false
are_same (a ∷ cs) (b ∷ bs) = is_same a b && are_same cs bs

-- the sheet belongs to the plan, rules A, B and C hold, and the timetable's list is the plan's bookings
unfoldable pub in_order : JobData → NetData → Ways → DrawState → Bool
in_order J N ρ S =
    belongs J S.count S.plan
    && keeps_rows J N S.plan
    && keeps_predecessors J S.plan
    && keeps_routes J ρ S.plan
    && are_same S.table.bookings (plan_bookings J N ρ S.plan)
