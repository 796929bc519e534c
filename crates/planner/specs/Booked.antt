-- What the parts of placing answer, with what they leave, read as the definitions have it.
use Rattle.std.specs.Prelude.{◌≡◌, ℕ, List, [], ◌∷◌, ◌++◌, length, take, nat_lt, Ok, Err, Option, Result}
use Rattle.std.specs.Bool.{then_some}
use Rattle.std.specs.Option.{option_map, option_map_or}
use Rattle.model.specs.Bookings.{link_resource}
use Rattle.model.specs.Data.{JobData, NetData, transfer_length}
use Rattle.model.specs.Plans.{PlanData, starts_of}
use Rattle.model.specs.declared.booking.Booking.{Booking}
use Rattle.model.specs.declared.refusal.Refusal.{Refusal}
use Rattle.model.specs.declared.refusal.Refusal.TheVariants.{PredecessorUnplaced, NoRoute, NoRoom}
use Rattle.routes.specs.Legs.{Ways}
use Rattle.routes.specs.declared.hop.Hop.{Hop}
use Rattle.timetable.specs.Changes.{with_booking}
use Rattle.timetable.specs.Tables.{Table, span}
use Rattle.planner.specs.Chains.{and_then, first_of}
use Rattle.planner.specs.Edges.{incoming}
use Rattle.planner.specs.Placing.{Brought, bring_all, unplaced_predecessor, edge_without_route, bookings_needed, room}
use Rattle.planner.specs.Transfers.{ask, Carried}
use Rattle.planner.specs.declared.transfers.BookedTransfer.{BookedTransfer}

-- the table with the answered start booked, if there is one
abbrev pub with_answer : Table → ℕ → ℕ → Result ℕ Refusal → Table
with_answer T r d (Ok s) = with_booking T (span r s d)
with_answer T r d (Err e) = T

-- the table with the first n of its bookings
abbrev pub first_bookings : ℕ → Table → Table
first_bookings n T = record T { bookings = take n T.bookings }

-- T is U with more bookings after those of U
abbrev pub Extends : Table → Table → Type 0
Extends T U = first_bookings (length U.bookings) T ≡ U

-- the leg of a transfer of volume v on a hop, from start s on
abbrev pub leg_from : NetData → ℕ → Hop → ℕ → Booking
leg_from N v h s = span (link_resource h.link) s (transfer_length N v h.link)

-- the leg on a hop, at its earliest start from a tick on
abbrev pub seek_leg : NetData → ℕ → Hop → ℕ → Table → Result Booking Refusal
seek_leg N v h from T = and_then (ask T (link_resource h.link) from (transfer_length N v h.link)) (λ s. Ok (leg_from N v h s))

-- the table with the answered leg booked, if there is one
abbrev pub with_leg : Table → Result Booking Refusal → Table
with_leg T (Ok b) = with_booking T b
with_leg T (Err e) = T

-- a transfer that was booked, with the table that is left
abbrev pub carried : Result BookedTransfer Refusal → Table → Result Carried Refusal
carried (Ok c) T = Ok (record { starts = starts_of c.row; arrival = c.arrival; table = T })
carried (Err e) T = Err e

-- the starts of the first hops, before those of the hops after them
abbrev pub after_starts : List ℕ → Result Carried Refusal → Result Carried Refusal
after_starts ss (Ok c) = Ok (record c { starts = ss ++ c.starts })
after_starts ss (Err e) = Err e

abbrev pub brought_so : PlanData → Table → ℕ → Brought
brought_so P T ready = record { plan = P; table = T; ready = ready }

-- what was brought, with the plan and the table that are left
abbrev pub brought : Result ℕ Refusal → PlanData → Table → Result Brought Refusal
brought (Ok ready) P T = Ok (brought_so P T ready)
brought (Err e) P T = Err e

-- the start of a task that was booked, with the plan and the table that are left
abbrev pub started : Result ℕ Refusal → PlanData → Table → Result (ℕ × PlanData × Table) Refusal
started (Ok s) P T = Ok (s, P, T)
started (Err e) P T = Err e

-- task of length d is booked on machine m once its transfers are, with the plan and the table then
abbrev pub start_after : ℕ → ℕ → Brought → Result (ℕ × PlanData × Table) Refusal
start_after m d B = and_then (ask B.table m B.ready d) (λ s. Ok (s, B.plan, with_booking B.table (span m s d)))

-- the transfers into task t and the task itself, of length d, booked on machine m
abbrev pub book_on : JobData → NetData → Ways → PlanData → Table → ℕ → ℕ → ℕ → Result (ℕ × PlanData × Table) Refusal
book_on J N ρ P T t m d = and_then (bring_all J N ρ m (incoming J t) (brought_so P T 0)) (start_after m d)

-- how many bookings task t takes on machine m; the lowest edge into it that has no route there is refused
abbrev pub needed : JobData → Ways → PlanData → ℕ → ℕ → Result ℕ Refusal
needed J ρ P t m = option_map_or (λ i. Err (NoRoute i)) (edge_without_route J ρ P t m) (Ok (bookings_needed J ρ P t m))

-- why no question is asked, once the task is known to be one of the job, not placed, and the machine a machine
abbrev pub needs_refusal : JobData → Ways → PlanData → Table → ℕ → ℕ → Option Refusal
needs_refusal J ρ P T t m = first_of (
    option_map PredecessorUnplaced (unplaced_predecessor J P t)
    ∷ option_map NoRoute (edge_without_route J ρ P t m)
    ∷ then_some (nat_lt (room T) (bookings_needed J ρ P t m)) (NoRoom (bookings_needed J ρ P t m))
    ∷ [])
