-- The limits of a network: why lists of stations and links make none. Both are numbered from 0 by their places.
-- This file does not name `Network`, whose ghost field cites it.
use Rattle.std.specs.Prelude.{◌≡◌, ℕ, ◌<◌, ◌≤◌, Bool, true, false, if◌then◌else◌, not, ◌&&◌, ◌||◌, List, [], ◌∷◌, length, Some, None, Option, ◌==◌, nat_le, nat_lt}
use Rattle.std.specs.List.{slice_get}
use Rattle.model.specs.Lengths.{within, speed_ok}
use Rattle.model.specs.Refusals.{or_else, first_refusal}
use Rattle.model.specs.Stations.{has_station, station_total, names_from}
use Rattle.model.specs.declared.network.Link.{Link}
use Rattle.model.specs.declared.network.Station.{Station}
use Rattle.model.specs.declared.network.Station.TheVariants.{Machine, Switch}
use Rattle.model.specs.declared.refusal.Refusal.{Refusal}
use Rattle.model.specs.declared.refusal.Refusal.TheVariants.{ListLength, ValueLimits, BadLink, NoMachine}
use Rattle.model.specs.declared.speed.Speed.{Speed}

abbrev pub speed_refusal : ℕ → Speed → Option Refusal
speed_refusal i v = if speed_ok v then None else Some (ValueLimits i)

abbrev pub station_refusal : ℕ → Station → Option Refusal
station_refusal i (Machine v) = speed_refusal i v
station_refusal i Switch = None

abbrev pub is_a_machine : Station → Bool
is_a_machine (Machine v) = true
is_a_machine Switch = false

abbrev pub has_machine : List Station → Bool
has_machine [] = false
has_machine (Machine v ∷ ss) = true
has_machine (Switch ∷ ss) = has_machine ss

-- what is wrong with link i among n stations
abbrev pub link_refusal : ℕ → ℕ → Link → Option Refusal
link_refusal n i l =
    if speed_ok l.speed
    then (if nat_lt (station_total l.stations) 2 || names_from n l.stations then Some (BadLink i) else None)
    else Some (ValueLimits i)

-- both lengths first, then each station, then that there is a machine, then each link
abbrev pub network_refusal : List Station → List Link → Option Refusal
network_refusal ss ls =
    if within 1 16 (length ss)
    then (if nat_le (length ls) 32
    then or_else (first_refusal station_refusal 0 ss)
    (if has_machine ss then first_refusal (link_refusal (length ss)) 0 ls else Some NoMachine)
    else Some (ListLength (length ls)))
    else Some (ListLength (length ss))

-- whether a link can carry a transfer from station a to station b
abbrev pub carries : Link → ℕ → ℕ → Bool
carries l a b = not (a == b) && has_station l.stations a && has_station l.stations b

-- what a link is among n stations: it can carry from some station to another, and names no unknown one
pub record LinkLimits (n : ℕ) (l : Link) : Type 0 where
  pub slowest : 1 ≤ l.speed.rate
  pub fastest : l.speed.rate ≤ 1000
  pub joins_two : (a : ℕ) × (b : ℕ) × (carries l a b ≡ true)
  pub known : (a : ℕ) → has_station l.stations a ≡ true → a < n
  pub none_beyond : l.stations.beyond ≡ false

-- what a network is, in other words: lists make one exactly if all of this holds
pub record NetworkLimits (ss : List Station) (ls : List Link) : Type 0 where
  pub some_station : 1 ≤ length ss
  pub few_stations : length ss ≤ 16
  pub few_links : length ls ≤ 32
  pub each_speed : (s : ℕ) (v : Speed) → slice_get ss s ≡ Some (Machine v) → (1 ≤ v.rate) × (v.rate ≤ 1000)
  pub some_machine : (s : ℕ) × (v : Speed) × (slice_get ss s ≡ Some (Machine v))
  pub each_link : (l : ℕ) (k : Link) → slice_get ls l ≡ Some k → LinkLimits (length ss) k
