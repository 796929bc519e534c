-- The legs of a transfer: its bookings in a plan, one for each hop of its route.
use Rattle.std.specs.Prelude.{ℕ, ◌-◌, if◌then◌else◌, List, [], ◌∷◌, length, Some, None, Option, ◌==◌}
use Rattle.std.specs.List.{slice_get}
use Rattle.model.specs.Bookings.{link_resource}
use Rattle.model.specs.Data.{JobData, NetData, transfer_length}
use Rattle.model.specs.Plans.{PlanData, task_row, starts}
use Rattle.model.specs.declared.booking.Booking.{Booking}
use Rattle.model.specs.declared.job.Edge.{Edge}
use Rattle.model.specs.declared.plan.Placement.{Placement}
use Rattle.routes.specs.declared.hop.Hop.{Hop}

-- for each ordered pair of stations a list of hops, or none
abbrev pub Ways : Type 0
Ways = ℕ → ℕ → Option (List Hop)

-- the hops on which an edge between two tasks is booked: its route where both are placed on different stations, else no hop
abbrev pub way_between : Ways → Option Placement → Option Placement → Option (List Hop)
way_between ρ None q = Some []
way_between ρ (Some p) None = Some []
way_between ρ (Some p) (Some q) = if p.station == q.station then Some [] else ρ p.station q.station

abbrev pub way : Ways → PlanData → Edge → Option (List Hop)
way ρ P e = way_between ρ (task_row P e.from) (task_row P e.to)

-- a transfer's bookings, hop by hop, as far as there are hops and starts
abbrev pub legs_on : NetData → ℕ → List Hop → List ℕ → List Booking
legs_on N v [] ss = []
legs_on N v (h ∷ hs) [] = []
legs_on N v (h ∷ hs) (s ∷ ss) = record { resource = link_resource h.link; start = s; length = transfer_length N v h.link } ∷ legs_on N v hs ss

abbrev pub legs_along : NetData → ℕ → Option (List Hop) → List ℕ → List Booking
legs_along N v None ss = []
legs_along N v (Some hs) ss = legs_on N v hs ss

-- an edge that is not there has none
abbrev pub legs_at : NetData → Ways → PlanData → ℕ → Option Edge → List Booking
legs_at N ρ P i None = []
legs_at N ρ P i (Some e) = legs_along N e.volume (way ρ P e) (starts P i)

-- the legs of edge i
abbrev pub legs : JobData → NetData → Ways → PlanData → ℕ → List Booking
legs J N ρ P i = legs_at N ρ P i (slice_get J.edges i)

abbrev pub last : {A : Type 0} → List A → Option A
last xs = slice_get xs (length xs - 1)
