-- What a row of a plan can hold. This file does not name `Plan`, whose ghost field cites it.
use Rattle.std.specs.Prelude.{ℕ, Bool, true, ◌&&◌, List, [], ◌∷◌, Some, None, Option, Ok, Err, Result, if◌then◌else◌, nat_le, nat_lt, codes}
use Rattle.model.specs.declared.plan.Placement.{Placement}
use Rattle.model.specs.declared.plan.error.PlanError.{PlanError}
use Rattle.model.specs.declared.plan.error.PlanError.TheVariants.{NoSuchRow, NoSuchStation, Full}

-- a placed row has a station of 0 to 15
abbrev pub station_fits : Option Placement → Bool
station_fits None = true
station_fits (Some p) = nat_le p.station 15

abbrev pub stations_fit : List (Option Placement) → Bool
stations_fit [] = true
stations_fit (r ∷ rs) = station_fits r && stations_fit rs

-- the row of task t can be p
abbrev pub row_fits : ℕ → Placement → Bool
row_fits t p = nat_lt t 128 && nat_le p.station 15

abbrev pub plan_error_text : PlanError → List ℕ
plan_error_text NoSuchRow = codes "no such row"
plan_error_text NoSuchStation = codes "no such station"
plan_error_text Full = codes "no place left"

-- what writing row r of a table of n rows answers
abbrev pub row_answer : ℕ → ℕ → Result (Unit {0}) PlanError
row_answer n r = if nat_lt r n then Ok tt else Err NoSuchRow

-- what writing p as the row of task t answers
abbrev pub task_answer : ℕ → Placement → Result (Unit {0}) PlanError
task_answer t p = if nat_lt t 128 then (if nat_le p.station 15 then Ok tt else Err NoSuchStation) else Err NoSuchRow
