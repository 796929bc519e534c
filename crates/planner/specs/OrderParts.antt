-- The test of order in the parts that are computed: marks of the steps, and the bookings from a place on.
use Rattle.std.specs.Prelude.{◌≡◌, ℕ, ◌+◌, Bool, false, ◌&&◌, List, [], ◌∷◌, Some, None, Option, if◌then◌else◌, slice_index_or}
use Rattle.std.specs.List.{slice_get, list_all}
use Rattle.std.specs.Option.{option_map_or}
use Rattle.model.specs.Bookings.{is_same}
use Rattle.model.specs.Plans.{PlanData}
use Rattle.model.specs.declared.booking.Booking.{Booking}
use Rattle.planner.specs.Edges.{is_placed}
use Rattle.planner.specs.Order.{is_among, all_differ}

-- each step is placed and stands once
abbrev pub placed_once : PlanData → Bool
placed_once P = list_all (is_placed P) P.steps && all_differ P.steps

-- the mark of a task says whether it is one of some steps
abbrev pub Marks : List Bool → List ℕ → Type 0
Marks marks ts = (t : ℕ) → slice_index_or marks t false ≡ is_among ts t

-- booking c stands at place k of a list
abbrev pub stands : List Booking → ℕ → Booking → Bool
stands bs k c = option_map_or (λ b. is_same b c) (slice_get bs k) false

-- the place after some bookings that stand in a list from place k on; none where others stand there
abbrev pub place_after : List Booking → ℕ → List Booking → Option ℕ
place_after bs k [] = Some k
place_after bs k (c ∷ cs) = if stands bs k c then place_after bs (k + 1) cs else None
