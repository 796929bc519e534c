-- A job and a network as lists, and how long a task or a transfer takes.
use Rattle.std.specs.Prelude.{ℕ, Bool, true, false, List, length, Some, None, vec_items, Option, slice_index}
use Rattle.std.specs.List.{slice_get}
use Rattle.model.specs.Lengths.{ticks}
use Rattle.model.specs.NetworkLimits.{carries}
use Rattle.model.specs.declared.job.Edge.{Edge}
use Rattle.model.specs.declared.job.Job.{Job}
use Rattle.model.specs.declared.network.Link.{Link}
use Rattle.model.specs.declared.network.Network.{Network}
use Rattle.model.specs.declared.network.Station.{Station}
use Rattle.model.specs.declared.network.Station.TheVariants.{Machine, Switch}
use Rattle.model.specs.declared.speed.Speed.{Speed}

-- the work of each task, and the edges
pub record JobData : Type 0 where
  pub works : List ℕ
  pub edges : List Edge

abbrev pub job_of : Job → JobData
job_of j = record { works = vec_items j.works; edges = vec_items j.edges }

abbrev pub task_count : JobData → ℕ
task_count J = length J.works

pub record NetData : Type 0 where
  pub stations : List Station
  pub links : List Link

abbrev pub net_of : Network → NetData
net_of n = record { stations = vec_items n.stations; links = vec_items n.links }

abbrev pub station_count : NetData → ℕ
station_count N = length N.stations

abbrev pub link_count : NetData → ℕ
link_count N = length N.links

-- what is not there, or is a switch, is no machine and has speed 0
abbrev pub machine_at : Option Station → Bool
machine_at None = false
machine_at (Some (Machine v)) = true
machine_at (Some Switch) = false

abbrev pub is_machine : NetData → ℕ → Bool
is_machine N s = machine_at (slice_get N.stations s)

abbrev pub no_speed : Speed
no_speed = record { rate = 0 }

abbrev pub speed_at : Option Station → Speed
speed_at None = no_speed
speed_at (Some (Machine v)) = v
speed_at (Some Switch) = no_speed

abbrev pub machine_speed : NetData → ℕ → Speed
machine_speed N s = speed_at (slice_get N.stations s)

abbrev pub speed_over : Option Link → Speed
speed_over None = no_speed
speed_over (Some l) = l.speed

abbrev pub link_speed : NetData → ℕ → Speed
link_speed N l = speed_over (slice_get N.links l)

-- a link that is not there carries nothing
abbrev pub carries_over : Option Link → ℕ → ℕ → Bool
carries_over None a b = false
carries_over (Some l) a b = carries l a b

abbrev pub carries_at : NetData → ℕ → ℕ → ℕ → Bool
carries_at N l a b = carries_over (slice_get N.links l) a b

-- the length of task t on station m, and of a transfer of a volume on link l
abbrev pub task_length : JobData → NetData → ℕ → ℕ → ℕ
task_length J N t m = ticks (slice_index J.works t) (machine_speed N m)

abbrev pub transfer_length : NetData → ℕ → ℕ → ℕ
transfer_length N volume l = ticks volume (link_speed N l)
