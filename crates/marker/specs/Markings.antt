-- What is asked of a marking: of its job, its network, its routes and its plan.
use Rattle.std.specs.Prelude.{◌≡◌, Bool}
use Rattle.std.specs.Borrow.{Bor}
use Rattle.model.specs.Data.{JobData, NetData}
use Rattle.model.specs.Plans.{PlanData}
use Rattle.routes.specs.Legs.{Ways}
use Rattle.routes.specs.RoutedPlans as Routed
use Rattle.marker.specs.declared.marking.Marking.{Marking}

abbrev pub on : {X A : Type 0} {r : _} → Marking X r → (JobData → NetData → Ways → PlanData → A) → A
on m f = Routed.on m.marked f

-- whatever a test answers of an item is what `passes` says of it
abbrev pub TestsBy : {X : Type 0} → (Bor X → Bool → Type 0) → (X → Bool) → Type 0
TestsBy {X} answers passes = (x : Bor X) (r : Bool) → answers x r → r ≡ passes x.now
