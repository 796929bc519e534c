-- Worked cases of the earliest start.
use Rattle.std.specs.Prelude.{◌≡◌, [], ◌∷◌, Some, None}
use Rattle.timetable.specs.Tables.{Table, empty_table, span}
use Rattle.timetable.specs.Earliest.{earliest}

-- resource 0 is taken from 0 to 4 and from 10 to 14, resource 1 from 4 to the end
abbrev pub busy_table : Table
busy_table = record { horizon = 64; most = 8; bookings = span 0 10 4 ∷ span 1 4 60 ∷ span 0 0 4 ∷ [] }

pub record WorkedCases : Type 0 where
  pub fills_the_gap : earliest busy_table 0 0 6 ≡ Some 4
  pub past_the_gap : earliest busy_table 0 0 7 ≡ Some 14
  pub inside_the_gap : earliest busy_table 0 5 5 ≡ Some 5
  pub late_in_the_gap : earliest busy_table 0 5 6 ≡ Some 14
  pub before_the_end : earliest busy_table 1 0 4 ≡ Some 0
  pub too_near_the_end : earliest busy_table 1 0 5 ≡ None
  pub up_to_the_horizon : earliest (empty_table 64 8) 0 0 64 ≡ Some 0
  pub past_the_horizon : earliest (empty_table 64 8) 0 1 64 ≡ None
  pub no_ticks : earliest (empty_table 64 8) 0 0 0 ≡ None
  pub last_resource : earliest (empty_table 64 8) 47 3 1 ≡ Some 3
  pub no_such_resource : earliest (empty_table 64 8) 48 3 1 ≡ None
