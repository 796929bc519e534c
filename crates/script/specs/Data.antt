-- What a line says, over plain numbers and lists.
use Rattle.std.specs.Prelude.{ℕ, Bool, false, List, length, nat_lt, vec_items}
use Rattle.script.specs.declared.line.HopWords.{HopWords}
use Rattle.script.specs.declared.line.Line.{Line}
use Rattle.script.specs.declared.line.Line.TheVariants.{Task, Edge, Machine, Switch, Link, Routes, Route, Bookings, Answer, Row, Starts, Mark, Place, Try, Keep, Strike, Back, Fill, Show, HandIn, Timetable}
use Rattle.script.specs.declared.line.RouteKind.{RouteKind}
use Rattle.script.specs.declared.line.TimetableKind.{TimetableKind}

pub data LineData : Type 0 where
  -- its work
  task : ℕ → LineData
  -- from a task, to a task, its volume
  edge : ℕ → ℕ → ℕ → LineData
  -- its speed
  machine : ℕ → LineData
  switch : LineData
  -- its speed, the stations that it joins
  link : ℕ → List ℕ → LineData
  routes : RouteKind → LineData
  -- from a station, to a station, over these hops
  route : ℕ → ℕ → List HopWords → LineData
  -- the most bookings
  bookings : ℕ → LineData
  timetable : TimetableKind → LineData
  answer : LineData
  -- the task, its station, its start
  row : ℕ → ℕ → ℕ → LineData
  -- the edge, its starts
  starts : ℕ → List ℕ → LineData
  mark : LineData
  -- the task, the machine
  place : ℕ → ℕ → LineData
  -- the task, the machine
  try : ℕ → ℕ → LineData
  keep : LineData
  strike : LineData
  back : LineData
  fill : LineData
  show : LineData
  hand_in : LineData

-- what a line of the code says
abbrev pub line_data : Line → LineData
line_data (Task work) = task work
line_data (Edge from to volume) = edge from to volume
line_data (Machine speed) = machine speed
line_data Switch = switch
line_data (Link speed stations) = link speed (vec_items stations)
line_data (Routes kind) = routes kind
line_data (Route from to hops) = route from to (vec_items hops)
line_data (Bookings most) = bookings most
line_data (Timetable kind) = timetable kind
line_data Answer = answer
line_data (Row t station start) = row t station start
line_data (Starts e ss) = starts e (vec_items ss)
line_data Mark = mark
line_data (Place t m) = place t m
line_data (Try t m) = try t m
line_data Keep = keep
line_data Strike = strike
line_data Back = back
line_data Fill = fill
line_data Show = show
line_data HandIn = hand_in

-- whether it takes memory to hold the line: it has a list, and that is not empty
abbrev pub takes_memory : LineData → Bool
takes_memory (link speed stations) = nat_lt 0 (length stations)
takes_memory (route from to hops) = nat_lt 0 (length hops)
takes_memory (starts e ss) = nat_lt 0 (length ss)
takes_memory _ = false
