-- A table of all legs of a plan, a row for each edge: what it says, and that it tells the legs right.
use Rattle.std.specs.Prelude.{◌≡◌, ℕ, ◌≤◌, List, [], None, Option, slice_index_or}
use Rattle.std.specs.List.{slice_get}
use Rattle.model.specs.declared.booking.Booking.{Booking}
use Rattle.routes.specs.Legs.{legs}
use Rattle.routes.specs.RoutedPlans.{on}
use Rattle.routes.specs.declared.legs.RoutedPlan.{RoutedPlan}
use Rattle.marker.specs.declared.legs.LegTable.{LegTable}

-- the leg of edge i on hop k, by the table
abbrev pub told : LegTable → ℕ → ℕ → Option Booking
told T i k = slice_index_or (slice_index_or T.rows i []) k None

-- the table has the legs of this plan
abbrev pub Tells : {X : Type 0} {r : _} → LegTable → RoutedPlan X r → Type 0
Tells T p = (i k : ℕ) → told T i k ≡ slice_get (on p legs i) k

-- the table has no leg
abbrev pub IsBlank : LegTable → Type 0
IsBlank T = (i k : ℕ) → told T i k ≡ None

-- no row from the table's count on has a leg
abbrev pub EndsAtCount : LegTable → Type 0
EndsAtCount T = (T.count ≤ 224) × ((i k : ℕ) → T.count ≤ i → told T i k ≡ None)

-- a row has these legs, hop by hop, and no more
abbrev pub RowTells : List (Option Booking) → List Booking → Type 0
RowTells row bs = (k : ℕ) → slice_index_or row k None ≡ slice_get bs k
