-- A network is refused nothing exactly if its limits hold.
use Rattle.std.proofs.Common.{◌≡◌, ℕ, zero, suc, ◌+◌, ◌-◌, ◌<◌, ◌≤◌, Bool, true, false, cond, ◌≢◌, List, [], ◌∷◌, length, get_or, drop, Some, None, sym, refl, ap, ◌∙◌, ⊎_elim, arith}
use Rattle.std.proofs.lemmas.List.{get_or-drop}
use Rattle.std.proofs.lemmas.Bool.{cases_lt, true≢false}
use Rattle.std.proofs.lemmas.Bool.Decides.{nat_tests}
use Rattle.std.specs.List.{slice_get}
use Rattle.model.specs.Refusals.{or_else, first_refusal}
use Rattle.model.specs.Stations.{count_true, station_total}
use Rattle.model.specs.Data.{net_of}
use Rattle.model.specs.NetworkLimits.{station_refusal, has_machine, link_refusal, network_refusal, LinkLimits, NetworkLimits}
use Rattle.model.specs.declared.network.Link.{Link}
use Rattle.model.specs.declared.network.Network.{Network}
use Rattle.model.specs.declared.network.Station.{Station}
use Rattle.model.specs.declared.network.Station.TheVariants.{Machine, Switch}
use Rattle.model.specs.declared.refusal.Refusal.TheVariants.{NoMachine}
use Rattle.model.specs.declared.speed.Speed.{Speed}
use Rattle.model.proofs.Firsts.{some≢none, none_from, or_none, or_both, first_passes, first_pass}

-- flags that are set, counted and by their places

one_true : (bs : List Bool) → 1 ≤ count_true bs → (a : ℕ) × (get_or bs a false ≡ true)
one_true [] h = absurd (omega arith)
one_true (true ∷ bs) h = (0, refl)
one_true (false ∷ bs) h = let r = one_true bs (omega arith) in (suc r.0, r.1)

two_true : (bs : List Bool) → 2 ≤ count_true bs → (a : ℕ) × (b : ℕ) × (a ≢ b) × (get_or bs a false ≡ true) × (get_or bs b false ≡ true)
two_true [] h = absurd (omega arith)
two_true (true ∷ bs) h = let r = one_true bs (omega arith) in (0, suc r.0, λ e. omega arith, refl, r.1)
two_true (false ∷ bs) h = let r = two_true bs (omega arith) in (suc r.0, suc r.1, λ e. r.2 (omega arith), r.3, r.4)

true_counts : (bs : List Bool) (a : ℕ) → get_or bs a false ≡ true → 1 ≤ count_true bs
true_counts [] a t = absurd (true≢false (sym t))
true_counts (true ∷ bs) a t = omega arith
true_counts (false ∷ bs) zero t = absurd (true≢false (sym t))
true_counts (false ∷ bs) (suc a) t = omega (arith, true_counts bs a t)

two_count : (bs : List Bool) (a b : ℕ) → a ≢ b → get_or bs a false ≡ true → get_or bs b false ≡ true → 2 ≤ count_true bs
two_count [] a b ne s t = absurd (true≢false (sym s))
two_count (true ∷ bs) zero zero ne s t = absurd (ne refl)
two_count (true ∷ bs) zero (suc b) ne s t = omega (arith, true_counts bs b t)
two_count (true ∷ bs) (suc a) zero ne s t = omega (arith, true_counts bs a s)
two_count (true ∷ bs) (suc a) (suc b) ne s t = omega (arith, true_counts bs a s)
two_count (false ∷ bs) zero b ne s t = absurd (true≢false (sym s))
two_count (false ∷ bs) (suc a) zero ne s t = absurd (true≢false (sym t))
two_count (false ∷ bs) (suc a) (suc b) ne s t = omega (arith, two_count bs a b (λ e. ne (ap suc e)) s t)

none_true : (bs : List Bool) → ((a : ℕ) → get_or bs a false ≡ true → ⊥) → count_true bs ≡ 0
none_true [] no_one = refl
none_true (true ∷ bs) no_one = absurd (no_one 0 refl)
none_true (false ∷ bs) no_one = let r = none_true bs (λ a. no_one (suc a)) in omega arith

-- a set names no number from n on, exactly if each of its numbers is below n
below_from : (n : ℕ) (bs : List Bool) → count_true (drop n bs) ≡ 0 → (a : ℕ) → get_or bs a false ≡ true → a < n
below_from n bs none a t =
    ⊎_elim (λ h. h)
    (λ past.
    let e : n + (a - n) ≡ a = omega arith in
    absurd (omega (arith, true_counts (drop n bs) (a - n) (get_or-drop n bs (a - n) false ∙ ap (λ k. get_or bs k false) e ∙ t))))
    (cases_lt a n)

none_from_below : (n : ℕ) (bs : List Bool) → ((a : ℕ) → get_or bs a false ≡ true → a < n) → count_true (drop n bs) ≡ 0
none_from_below n bs below = none_true (drop n bs) (λ a t. omega (arith, below (n + a) (sym (get_or-drop n bs a false) ∙ t)))

-- one link

record Passes (n : ℕ) (l : Link) : Type 0 where
  slow : 1 ≤ l.speed.rate
  fast : l.speed.rate ≤ 1000
  two : 2 ≤ station_total l.stations
  inside : count_true (drop n l.stations.members) ≡ 0
  none_beyond : l.stations.beyond ≡ false

link_parts : (n i : ℕ) (l : Link) → link_refusal n i l ≡ None → Passes n l
link_parts n i l e = record { slow = grind (arith, nat_tests); fast = grind (arith, nat_tests); two = grind (arith, nat_tests); inside = grind (arith, nat_tests); none_beyond = grind (arith, nat_tests) }

link_passes : (n i : ℕ) (l : Link) → Passes n l → link_refusal n i l ≡ None
link_passes n i l p = grind (arith, nat_tests, p.slow, p.fast, p.two, p.inside, p.none_beyond)

link_limits : (n i : ℕ) (l : Link) → link_refusal n i l ≡ None → LinkLimits n l
link_limits n i l e =
    let p = link_parts n i l e in
    let t = two_true l.stations.members p.two in
    let ne = t.2 in
    let a_in = t.3 in
    let b_in = t.4 in
    record {
      slowest = p.slow;
      fastest = p.fast;
      joins_two = (t.0, t.1, grind (arith, nat_tests));
      known = below_from n l.stations.members p.inside;
      none_beyond = p.none_beyond;
    }

link_within : (n i : ℕ) (l : Link) → LinkLimits n l → link_refusal n i l ≡ None
link_within n i l k =
    let a = k.joins_two.0 in
    let b = k.joins_two.1 in
    let c = k.joins_two.2 in
    let ne : a ≢ b = grind (arith, nat_tests) in
    let a_in : get_or l.stations.members a false ≡ true = grind (arith, nat_tests) in
    let b_in : get_or l.stations.members b false ≡ true = grind (arith, nat_tests) in
    link_passes n i l (record {
      slow = k.slowest;
      fast = k.fastest;
      two = two_count l.stations.members a b ne a_in b_in;
      inside = none_from_below n l.stations.members k.known;
      none_beyond = k.none_beyond;
    })

-- stations

machine_place : (ss : List Station) → has_machine ss ≡ true → (s : ℕ) × (v : Speed) × (slice_get ss s ≡ Some (Machine v))
machine_place [] e = absurd (true≢false (sym e))
machine_place (Machine v ∷ ss) e = (0, v, refl)
machine_place (Switch ∷ ss) e = let r = machine_place ss e in (suc r.0, r.1, r.2)

place_machine : (ss : List Station) (s : ℕ) (v : Speed) → slice_get ss s ≡ Some (Machine v) → has_machine ss ≡ true
place_machine [] s v e = absurd (some≢none (sym e))
place_machine (Machine w ∷ ss) s v e = refl
place_machine (Switch ∷ ss) zero v e = let z : ◌≡◌ {A = ℕ} 0 1 = cc in absurd (omega arith)
place_machine (Switch ∷ ss) (suc s) v e = place_machine ss s v e

speed_parts : (i : ℕ) (v : Speed) → station_refusal i (Machine v) ≡ None → (1 ≤ v.rate) × (v.rate ≤ 1000)
speed_parts i v e = (grind (arith, nat_tests), grind (arith, nat_tests))

speed_passes : (i : ℕ) (v : Speed) → (1 ≤ v.rate) × (v.rate ≤ 1000) → station_refusal i (Machine v) ≡ None
speed_passes i v p = grind (arith, nat_tests, p.0, p.1)

station_passes : (i : ℕ) (s : Station) → ((v : Speed) → s ≡ Machine v → (1 ≤ v.rate) × (v.rate ≤ 1000)) → station_refusal i s ≡ None
station_passes i (Machine v) p = speed_passes i v (p v refl)
station_passes i Switch p = refl

-- the lists

record Lists (ss : List Station) (ls : List Link) : Type 0 where
  some : 1 ≤ length ss
  few : length ss ≤ 16
  few_links : length ls ≤ 32
  machine : has_machine ss ≡ true
  stations_pass : first_refusal station_refusal 0 ss ≡ None
  links_pass : first_refusal (link_refusal (length ss)) 0 ls ≡ None

lists : (ss : List Station) (ls : List Link) → network_refusal ss ls ≡ None → Lists ss ls
lists ss ls e =
    let links = first_refusal (link_refusal (length ss)) 0 ls in
    let inner : or_else (first_refusal station_refusal 0 ss) (cond (has_machine ss) links (Some NoMachine)) ≡ None = grind (arith, nat_tests) in
    let both = or_none (first_refusal station_refusal 0 ss) (cond (has_machine ss) links (Some NoMachine)) inner in
    let last = both.1 in
    record { some = grind (arith, nat_tests); few = grind (arith, nat_tests); few_links = grind (arith, nat_tests); machine = grind (arith, nat_tests); stations_pass = both.0; links_pass = grind (arith, nat_tests) }

pub network_limits : (ss : List Station) (ls : List Link) → network_refusal ss ls ≡ None → NetworkLimits ss ls
network_limits ss ls none =
    let l = lists ss ls none in
    record {
      some_station = l.some;
      few_stations = l.few;
      few_links = l.few_links;
      each_speed = λ s v at. speed_parts (0 + s) v (first_passes station_refusal 0 ss l.stations_pass s (Machine v) at);
      some_machine = machine_place ss l.machine;
      each_link = λ i k at. link_limits (length ss) (0 + i) k (first_passes (link_refusal (length ss)) 0 ls l.links_pass i k at);
    }

pub network_passes : (ss : List Station) (ls : List Link) → NetworkLimits ss ls → network_refusal ss ls ≡ None
network_passes ss ls l =
    let stations : first_refusal station_refusal 0 ss ≡ None = first_pass station_refusal 0 ss (λ i s at. station_passes (0 + i) s (λ v e. l.each_speed i v (at ∙ ap Some e))) in
    let machine : has_machine ss ≡ true = place_machine ss l.some_machine.0 l.some_machine.1 l.some_machine.2 in
    let links : first_refusal (link_refusal (length ss)) 0 ls ≡ None = first_pass (link_refusal (length ss)) 0 ls (λ i k at. link_within (length ss) (0 + i) k (l.each_link i k at)) in
    let rest : cond (has_machine ss) (first_refusal (link_refusal (length ss)) 0 ls) (Some NoMachine) ≡ None = grind (arith, nat_tests) in
    let inner : or_else (first_refusal station_refusal 0 ss) (cond (has_machine ss) (first_refusal (link_refusal (length ss)) 0 ls) (Some NoMachine)) ≡ None = or_both _ _ stations rest in
    grind (arith, nat_tests, inner, l.some_station, l.few_stations, l.few_links)

-- what the limits of a network tell the crates above

pub of_network : (n : Network) → NetworkLimits (net_of n).stations (net_of n).links
of_network n = network_limits (net_of n).stations (net_of n).links (none_from (network_refusal (net_of n).stations (net_of n).links) n.limits)
