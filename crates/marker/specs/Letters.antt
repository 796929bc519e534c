-- The letters of the rules, as character codes: 65 is A.
use Rattle.std.specs.Prelude.{ℕ}
use Rattle.marker.specs.declared.verdict.Rule.{Rule}
use Rattle.marker.specs.declared.verdict.Rule.TheVariants.{Rows, Predecessors, Routed, WithinLimit, Departure, Causality, Arrival, Machines, Links}

abbrev pub letter : Rule → ℕ
letter Rows = 65
letter Predecessors = 66
letter Routed = 67
letter WithinLimit = 68
letter Departure = 69
letter Causality = 70
letter Arrival = 71
letter Machines = 72
letter Links = 73
