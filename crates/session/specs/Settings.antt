-- What the lines of a setting gather: the lists of which a job, a network and routes are made.
use Rattle.std.specs.Prelude.{ℕ, ◌+◌, ◌*◌, Bool, true, false, if◌then◌else◌, ◌&&◌, List, [], ◌∷◌, ◌++◌, map, replicate, Some, None, vec_items, Option, nat_lt, slice_set}
use Rattle.model.specs.Stations.{no_stations, with_station}
use Rattle.model.specs.declared.job.Edge.{Edge}
use Rattle.model.specs.declared.network.Link.{Link}
use Rattle.model.specs.declared.network.Station.{Station}
use Rattle.model.specs.declared.network.Station.TheVariants.{Machine, Switch}
use Rattle.model.specs.declared.stations.StationSet.{StationSet}
use Rattle.routes.specs.declared.hop.Hop.{Hop}
use Rattle.script.specs.Data.{LineData, task, edge, machine, switch, link, routes, route, bookings, timetable, answer, row, starts, mark, place, try, keep, strike, back, fill, show, hand_in}
use Rattle.script.specs.declared.line.HopWords.{HopWords}
use Rattle.script.specs.declared.line.RouteKind.{RouteKind}
use Rattle.script.specs.declared.line.RouteKind.TheVariants.{Hops}
use Rattle.script.specs.declared.line.TimetableKind.TheVariants.{Roll}
use Rattle.session.specs.declared.table_form.TableForm.{TableForm}
use Rattle.session.specs.Pairs.{pairs_of}
use Rattle.session.specs.declared.setting.Setting.{Setting}

pub record SettingData : Type 0 where
  pub works : List ℕ
  pub edges : List Edge
  pub stations : List Station
  pub links : List Link
  pub kind : RouteKind
  pub table : TableForm
  -- the hops written for the pair of stations s and t, if a line has any, stand at place 16 × s + t
  pub written : List (Option (List Hop))

abbrev pub setting_of : Setting → SettingData
setting_of s = record {
  works = vec_items s.works;
  edges = vec_items s.edges;
  stations = vec_items s.stations;
  links = vec_items s.links;
  kind = s.kind;
  table = s.table;
  written = pairs_of s.written;
}

-- before any line: by hops, and a roll with room for 4,096 bookings
abbrev pub no_setting : SettingData
no_setting = record { works = []; edges = []; stations = []; links = []; kind = Hops; table = record { kind = Roll; most = 4096 }; written = replicate 256 None }

-- a set with more stations, one after the other
abbrev pub with_stations : StationSet → List ℕ → StationSet
with_stations set [] = set
with_stations set (s ∷ ss) = with_stations (with_station set s) ss

abbrev pub link_from : ℕ → List ℕ → Link
link_from speed ss = record { stations = with_stations no_stations ss; speed = record { rate = speed } }

abbrev pub hop_from : HopWords → Hop
hop_from w = record { link = w.link; station = w.station }

-- the hops of a pair; of two lines for a pair the later counts, and a number above 15 is no station
abbrev pub with_route : List (Option (List Hop)) → ℕ → ℕ → List Hop → List (Option (List Hop))
with_route written s t hops = if nat_lt s 16 && nat_lt t 16 then slice_set written (16 * s + t) (Some hops) else written

-- whether a line belongs to the setting
abbrev pub is_setting : LineData → Bool
is_setting (task work) = true
is_setting (edge from to volume) = true
is_setting (machine speed) = true
is_setting switch = true
is_setting (link speed stations) = true
is_setting (routes kind) = true
is_setting (route from to hops) = true
is_setting (bookings most) = true
is_setting (timetable kind) = true
is_setting answer = false
is_setting (row t station start) = false
is_setting (starts e ss) = false
is_setting mark = false
is_setting (place t m) = false
is_setting (try t m) = false
is_setting keep = false
is_setting strike = false
is_setting back = false
is_setting fill = false
is_setting show = false
is_setting hand_in = false

-- the setting with one line more; a line that does not belong to it changes nothing
abbrev pub with_line : SettingData → LineData → SettingData
with_line S (task work) = record S { works = S.works ++ work ∷ [] }
with_line S (edge from to volume) = record S { edges = S.edges ++ record { from = from; to = to; volume = volume } ∷ [] }
with_line S (machine speed) = record S { stations = S.stations ++ Machine (record { rate = speed }) ∷ [] }
with_line S switch = record S { stations = S.stations ++ Switch ∷ [] }
with_line S (link speed stations) = record S { links = S.links ++ link_from speed stations ∷ [] }
with_line S (routes kind) = record S { kind = kind }
with_line S (route from to hops) = record S { written = with_route S.written from to (map hop_from hops) }
with_line S (bookings most) = record S { table = record S.table { most = most } }
with_line S (timetable kind) = record S { table = record S.table { kind = kind } }
with_line S _ = S
