-- Which tables make routes, and which pair a refusal names, in other words.
use Rattle.std.specs.Prelude.{◌≡◌, ℕ, ◌+◌, ◌*◌, ◌<◌, List, Some, Option}
use Rattle.model.specs.Data.{NetData, station_count}
use Rattle.model.specs.declared.refusal.Refusal.{Refusal}
use Rattle.model.specs.declared.refusal.Refusal.TheVariants.{BadRoute}
use Rattle.routes.specs.Laws.{PairLaws}
use Rattle.routes.specs.Tables.{row_at}
use Rattle.routes.specs.declared.hop.Hop.{Hop}

-- the pair has a row, and the row keeps the laws of the pair
pub record LawfulRow (N : NetData) (rows : List (Option (List Hop))) (s t : ℕ) : Type 0 where
  pub row : Option (List Hop)
  pub there : row_at N rows s t ≡ Some row
  pub kept : PairLaws N s t row

-- every pair of stations has such a row
pub record LawfulTable (N : NetData) (rows : List (Option (List Hop))) : Type 0 where
  pub each_pair : (s t : ℕ) → s < station_count N → t < station_count N → LawfulRow N rows s t

-- the refusal names a pair of stations that has no such row, and every lower pair, by origin, then goal, has one
pub record FirstBroken (N : NetData) (rows : List (Option (List Hop))) (e : Refusal) : Type 0 where
  pub origin : ℕ
  pub goal : ℕ
  pub origin_known : origin < station_count N
  pub goal_known : goal < station_count N
  pub named : e ≡ BadRoute (16 * origin + goal)
  pub broken : LawfulRow N rows origin goal → ⊥
  pub lower_goals : (t : ℕ) → t < goal → LawfulRow N rows origin t
  pub lower_origins : (s t : ℕ) → s < origin → t < station_count N → LawfulRow N rows s t
