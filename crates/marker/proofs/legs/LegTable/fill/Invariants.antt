use Rattle.std.proofs.Common.{◌≡◌, ℕ, ◌<◌, ◌≤◌, length, get_or, [], None}
use Rattle.routes.specs.Legs.{legs}
use Rattle.routes.specs.RoutedPlans.{on}
use Rattle.marker.specs.Table.{RowTells}
use Rattle.marker.proofs.legs.LegTable.fill.Given as goal

abbrev pub invariant-loop-i : goal.invariant-loop-i
invariant-loop-i g l = (length l.self.rows ≡ 224) × (l.count ≤ 224) × ((j : ℕ) → j < l.i → RowTells (get_or l.self.rows j []) (on l.plan legs j)) × ((j k : ℕ) → l.i ≤ j → get_or (get_or l.self.rows j []) k None ≡ None)
