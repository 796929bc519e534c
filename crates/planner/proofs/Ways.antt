-- The way of an edge whose goal is to be placed on a machine.
use Rattle.std.proofs.Common.{◌≡◌, ℕ, ◌<◌, Bool, true, false, [], Some, ◌==◌, if◌then◌else◌, refl, ap, ◌∙◌, eqb-true}
use Rattle.model.specs.Data.{NetData, station_count}
use Rattle.model.specs.Plans.{PlanData, task_row}
use Rattle.model.specs.declared.job.Edge.{Edge}
use Rattle.model.specs.declared.plan.Placement.{Placement}
use Rattle.routes.specs.Laws.{RouteLaws}
use Rattle.routes.specs.Legs.{Ways, way_between}
use Rattle.planner.specs.Edges.{way_to}

module _ (N : NetData) (ρ : Ways) (laws : RouteLaws N ρ) (m : ℕ) (known : m < station_count N) where
  way_from : (s : ℕ) (b : Bool) → (s == m) ≡ b → ρ s m ≡ (if b then Some [] else ρ s m)
  way_from s true same = let is : s ≡ m = eqb-true s m same in ap (λ k. ρ k m) is ∙ (laws.each_pair m m known known).itself refl
  way_from s false other = refl

  -- it is the route, also from a station to itself
  pub way_is_route : (P : PlanData) (e : Edge) (p : Placement) → Some p ≡ task_row P e.from → ρ p.station m ≡ way_to ρ P m e
  way_is_route P e p at = way_from p.station (p.station == m) refl ∙ ap (λ o. way_between ρ o (Some (record { station = m; start = 0 }))) at
