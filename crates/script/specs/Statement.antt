-- What a line says, by its first word and the words after it.
use Rattle.std.specs.Prelude.{ℕ, if◌then◌else◌, ◌&&◌, List, [], ◌∷◌, length, Some, None, codes, Option, nat_le}
use Rattle.std.specs.Option.{option_map, option_and_then}
use Rattle.script.specs.Data.{LineData, task, edge, machine, switch, link, routes, route, bookings, answer, row, starts, mark, place, try, keep, strike, back, fill, show, hand_in, timetable}
use Rattle.script.specs.Form.{form_named}
use Rattle.script.specs.Number.{numbers_of}
use Rattle.script.specs.Words.{named, same_word}
use Rattle.script.specs.declared.form.Form.{Form}
use Rattle.script.specs.declared.form.Form.TheVariants.{Task, Edge, Machine, Switch, Link, Route, Bookings, Answer, Row, Starts, Mark, Place, Try, Keep, Strike, Back, Fill, Show}
use Rattle.script.specs.declared.line.HopWords.{HopWords}
use Rattle.script.specs.declared.line.RouteKind.{RouteKind}
use Rattle.script.specs.declared.line.RouteKind.TheVariants.{Hops, Slowness, Written}
use Rattle.script.specs.declared.line.TimetableKind.TheVariants.{Roll, Bits}

abbrev pub task_of : List ℕ → Option LineData
task_of (work ∷ []) = Some (task work)
task_of _ = None

abbrev pub edge_of : List ℕ → Option LineData
edge_of (from ∷ to ∷ volume ∷ []) = Some (edge from to volume)
edge_of _ = None

abbrev pub machine_of : List ℕ → Option LineData
machine_of (speed ∷ []) = Some (machine speed)
machine_of _ = None

-- a line of one word
abbrev pub alone_of : LineData → List ℕ → Option LineData
alone_of d [] = Some d
alone_of d _ = None

abbrev pub link_of : List ℕ → Option LineData
link_of (speed ∷ stations) = Some (link speed stations)
link_of [] = None

-- each two numbers are a hop
abbrev pub hops_of : List ℕ → Option (List HopWords)
hops_of [] = Some []
hops_of (l ∷ []) = None
hops_of (l ∷ s ∷ ns) = option_map (λ hs. record { link = l; station = s } ∷ hs) (hops_of ns)

abbrev pub route_of : List ℕ → Option LineData
route_of (from ∷ to ∷ ns) = option_map (route from to) (hops_of ns)
route_of _ = None

abbrev pub bookings_of : List ℕ → Option LineData
bookings_of (most ∷ []) = if nat_le most 4096 then Some (bookings most) else None
bookings_of _ = None

-- a task up to 127, a station up to 15
abbrev pub row_of : List ℕ → Option LineData
row_of (t ∷ station ∷ start ∷ []) = if nat_le t 127 && nat_le station 15 then Some (row t station start) else None
row_of _ = None

-- an edge up to 223, 1 to 15 starts
abbrev pub starts_of : List ℕ → Option LineData
starts_of (e ∷ ss) = if nat_le e 223 && (nat_le 1 (length ss) && nat_le (length ss) 15) then Some (starts e ss) else None
starts_of [] = None

abbrev pub place_of : List ℕ → Option LineData
place_of (t ∷ m ∷ []) = Some (place t m)
place_of _ = None

abbrev pub try_of : List ℕ → Option LineData
try_of (t ∷ m ∷ []) = Some (try t m)
try_of _ = None

-- what a line of a form says with these numbers
abbrev pub form_line : Form → List ℕ → Option LineData
form_line Task ns = task_of ns
form_line Edge ns = edge_of ns
form_line Machine ns = machine_of ns
form_line Switch ns = alone_of switch ns
form_line Link ns = link_of ns
form_line Route ns = route_of ns
form_line Bookings ns = bookings_of ns
form_line Answer ns = alone_of answer ns
form_line Row ns = row_of ns
form_line Starts ns = starts_of ns
form_line Mark ns = alone_of mark ns
form_line Place ns = place_of ns
form_line Try ns = try_of ns
form_line Keep ns = alone_of keep ns
form_line Strike ns = alone_of strike ns
form_line Back ns = alone_of back ns
form_line Fill ns = alone_of fill ns
form_line Show ns = alone_of show ns

abbrev pub kind_words : List (List ℕ × RouteKind)
kind_words = (codes "hops", Hops) ∷ (codes "slowness", Slowness) ∷ (codes "written", Written) ∷ []

abbrev pub kind_named : List ℕ → Option RouteKind
kind_named w = named kind_words w

-- one word that names a kind of routes
abbrev pub routes_of : List (List ℕ) → Option LineData
routes_of [] = None
routes_of (w ∷ []) = option_map routes (kind_named w)
routes_of (w ∷ v ∷ ws) = None

-- the one word that may follow `hand`
abbrev pub hand_of : List (List ℕ) → Option LineData
hand_of [] = None
hand_of (w ∷ []) = if same_word w (codes "in") then Some hand_in else None
hand_of (w ∷ v ∷ ws) = None

-- a bit sheet with 0 to 1024 words for each resource
abbrev pub bits_of : List ℕ → Option LineData
bits_of (words ∷ []) = if nat_le words 1024 then Some (timetable (Bits words)) else None
bits_of _ = None

-- what the word after `timetable` says with the numbers after it
abbrev pub timetable_line : List ℕ → List ℕ → Option LineData
timetable_line w ns =
    if same_word w (codes "roll") then alone_of (timetable Roll) ns
    else if same_word w (codes "bits") then bits_of ns
    else None

-- the word that names a kind of timetable, and its numbers
abbrev pub timetable_of : List (List ℕ) → Option LineData
timetable_of [] = None
timetable_of (w ∷ ws) = option_and_then (timetable_line w) (numbers_of ws)

abbrev pub numbered_of : Option Form → Option (List ℕ) → Option LineData
numbered_of None ns = None
numbered_of (Some f) ns = option_and_then (form_line f) ns

-- what the word w and the words ws after it say, if anything
abbrev pub line_of : List ℕ → List (List ℕ) → Option LineData
line_of w ws =
    if same_word w (codes "routes") then routes_of ws
    else if same_word w (codes "hand") then hand_of ws
    else if same_word w (codes "timetable") then timetable_of ws
    else numbered_of (form_named w) (numbers_of ws)
