-- How a line is written, and which lines can be.
use Rattle.std.specs.Prelude.{All, ◌≡◌, ℕ, ◌^◌, ◌<◌, ◌≤◌, List, [], ◌∷◌, map, length, codes, decimal}
use Rattle.script.specs.Data.{LineData, task, edge, machine, switch, link, routes, route, bookings, answer, row, starts, mark, place, try, keep, strike, back, fill, show, hand_in, timetable}
use Rattle.script.specs.Read.{read, says, spaced}
use Rattle.script.specs.declared.line.HopWords.{HopWords}
use Rattle.script.specs.declared.line.RouteKind.{RouteKind}
use Rattle.script.specs.declared.line.RouteKind.TheVariants.{Hops, Slowness, Written}
use Rattle.script.specs.declared.line.TimetableKind.TheVariants.{Roll, Bits}

abbrev pub kind_name : RouteKind → List ℕ
kind_name Hops = codes "hops"
kind_name Slowness = codes "slowness"
kind_name Written = codes "written"

abbrev pub hop_numbers : List HopWords → List ℕ
hop_numbers [] = []
hop_numbers (h ∷ hs) = h.link ∷ h.station ∷ hop_numbers hs

-- the words of a line; `decimal n` is what printing the number n writes
abbrev pub written : LineData → List (List ℕ)
written (task work) = codes "task" ∷ map decimal (work ∷ [])
written (edge from to volume) = codes "edge" ∷ map decimal (from ∷ to ∷ volume ∷ [])
written (machine speed) = codes "machine" ∷ map decimal (speed ∷ [])
written switch = codes "switch" ∷ []
written (link speed stations) = codes "link" ∷ map decimal (speed ∷ stations)
written (routes kind) = codes "routes" ∷ kind_name kind ∷ []
written (route from to hops) = codes "route" ∷ map decimal (from ∷ to ∷ hop_numbers hops)
written (bookings most) = codes "bookings" ∷ map decimal (most ∷ [])
written (timetable Roll) = codes "timetable" ∷ codes "roll" ∷ []
written (timetable (Bits words)) = codes "timetable" ∷ codes "bits" ∷ map decimal (words ∷ [])
written answer = codes "answer" ∷ []
written (row t station start) = codes "row" ∷ map decimal (t ∷ station ∷ start ∷ [])
written (starts e ss) = codes "starts" ∷ map decimal (e ∷ ss)
written mark = codes "mark" ∷ []
written (place t m) = codes "place" ∷ map decimal (t ∷ m ∷ [])
written (try t m) = codes "try" ∷ map decimal (t ∷ m ∷ [])
written keep = codes "keep" ∷ []
written strike = codes "strike" ∷ []
written back = codes "back" ∷ []
written fill = codes "fill" ∷ []
written show = codes "show" ∷ []
written hand_in = codes "hand" ∷ codes "in" ∷ []

abbrev pub Fits32 : ℕ → Type 0
Fits32 n = n < 2 ^ 32

-- each number fits 32 bits, and is within the limits of its line
abbrev pub Within : LineData → Type 0
Within (task work) = Fits32 work
Within (edge from to volume) = Fits32 from × Fits32 to × Fits32 volume
Within (machine speed) = Fits32 speed
Within switch = Unit {0}
Within (link speed stations) = Fits32 speed × All Fits32 stations
Within (routes kind) = Unit {0}
Within (route from to hops) = Fits32 from × Fits32 to × All Fits32 (hop_numbers hops)
Within (bookings most) = most ≤ 4096
Within (timetable Roll) = Unit {0}
Within (timetable (Bits words)) = words ≤ 1024
Within answer = Unit {0}
Within (row t station start) = (t ≤ 127) × (station ≤ 15) × Fits32 start
Within (starts e ss) = (e ≤ 223) × (1 ≤ length ss) × (length ss ≤ 15) × All Fits32 ss
Within mark = Unit {0}
Within (place t m) = Fits32 t × Fits32 m
Within (try t m) = Fits32 t × Fits32 m
Within keep = Unit {0}
Within strike = Unit {0}
Within back = Unit {0}
Within fill = Unit {0}
Within show = Unit {0}
Within hand_in = Unit {0}

-- every line within the limits is read back from its own text
abbrev pub ReadsBack : Type 0
ReadsBack = (d : LineData) → Within d → read (spaced (written d)) ≡ says d
