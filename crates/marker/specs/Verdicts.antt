-- The verdict on a plan, as a search: the first broken rule, at the lowest pair of numbers.
use Rattle.std.specs.Prelude.{◌≡◌, ℕ, zero, suc, ◌+◌, ◌<◌, Bool, true, false, if◌then◌else◌, not, ◌&&◌, ◌||◌, ◌⊎◌, ◌↔◌, List, [], ◌∷◌, length, Some, None, Option, ◌==◌, nat_le, nat_lt}
use Rattle.std.specs.Option.{option_map}
use Rattle.std.specs.List.{slice_get}
use Rattle.model.specs.Bookings.{end, shares, collide}
use Rattle.model.specs.Data.{JobData, NetData, is_machine, task_length}
use Rattle.model.specs.Lowest.{lowest}
use Rattle.model.specs.Plans.{PlanData, task_row, starts, finish}
use Rattle.model.specs.Refusals.{or_else}
use Rattle.model.specs.declared.job.Edge.{Edge}
use Rattle.routes.specs.Legs.{Ways, way, legs, last}
use Rattle.marker.specs.Faults.{limit, Fault, NoFault}
use Rattle.marker.specs.declared.verdict.Verdict.{Verdict}
use Rattle.marker.specs.declared.verdict.Verdict.TheVariants.{Lawful, Broken}
use Rattle.marker.specs.declared.verdict.Rule.{Rule}
use Rattle.marker.specs.declared.verdict.Rule.TheVariants.{Rows, Predecessors, Routed, WithinLimit, Departure, Causality, Arrival, Machines, Links}

-- there is a value, and it passes
abbrev pub some_is : {A : Type 0} → Option A → (A → Bool) → Bool
some_is None p = false
some_is (Some x) p = p x

-- an element of the list passes
unfoldable pub any : {A : Type 0} → List A → (A → Bool) → Bool
any [] p = false
any (x ∷ xs) p = p x || any xs p

-- a transfer row has a start
abbrev pub filled : List ℕ → Bool
filled [] = false
filled (s ∷ ss) = true

-- a way is missing, or has not n hops
abbrev pub misfit : Option ℕ → ℕ → Bool
misfit None n = true
misfit (Some m) n = not (n == m)

module _ (J : JobData) (N : NetData) (ρ : Ways) (P : PlanData) where
  -- the edge is there, and passes
  abbrev pub at_edge : ℕ → (Edge → Bool) → Bool
  at_edge i p = some_is (slice_get J.edges i) p

  -- A: a placed task is none of the job's or on no machine (0), a filled transfer is of no edge (1)
  abbrev pub rows_test : ℕ → ℕ → Bool
  rows_test zero t = some_is (task_row P t) (λ p. nat_le (length J.works) t || not (is_machine N p.station))
  rows_test (suc zero) i = filled (starts P i) && nat_le (length J.edges) i
  rows_test (suc (suc x)) y = false

  -- D: a task (0) or a transfer on some link (1) is done after the limit
  abbrev pub limit_test : ℕ → ℕ → Bool
  limit_test zero t = some_is (task_row P t) (λ p. nat_lt limit (finish J N t p))
  limit_test (suc zero) i = any (legs J N ρ P i) (λ b. nat_lt limit (end b))
  limit_test (suc (suc x)) y = false

  -- B: the edge's goal is placed, and its origin is not
  abbrev pub predecessors_test : ℕ → Bool
  predecessors_test i = at_edge i (λ e. some_is (task_row P e.to) (λ q. not (some_is (task_row P e.from) (λ p. true))))

  -- C: the edge has no way, or not as many starts as hops
  abbrev pub routed_test : ℕ → Bool
  routed_test i = at_edge i (λ e. misfit (option_map length (way ρ P e)) (length (starts P i)))

  -- E: the transfer starts before its origin is done
  abbrev pub departure_test : ℕ → Bool
  departure_test i = at_edge i (λ e. some_is (task_row P e.from) (λ p. some_is (slice_get (legs J N ρ P i) 0) (λ b. nat_lt b.start (finish J N e.from p))))

  -- on hop k the transfer starts before its first start, or is done before it is on the hop `last`
  abbrev pub hop_test : ℕ → ℕ → ℕ → Bool
  hop_test i last k = some_is (slice_get (legs J N ρ P i) k) (λ b.
      some_is (slice_get (legs J N ρ P i) 0) (λ a. nat_lt b.start a.start) || some_is (slice_get (legs J N ρ P i) last) (λ a. nat_lt (end b) (end a)))

  -- F: so on a later hop than the first, with the hop before it as `last`
  abbrev pub causality_test : ℕ → ℕ → Bool
  causality_test i zero = false
  causality_test i (suc k) = hop_test i k (suc k)

  -- G: the edge's goal starts before the transfer's last finish, or before its origin on the same machine is done
  abbrev pub arrival_test : ℕ → Bool
  arrival_test i = at_edge i (λ e. some_is (task_row P e.to) (λ q.
      some_is (last (legs J N ρ P i)) (λ b. nat_lt q.start (end b))
      || some_is (task_row P e.from) (λ p. (p.station == q.station) && nat_lt q.start (finish J N e.from p))))

  -- H: two tasks on one machine share a tick
  abbrev pub machines_test : ℕ → ℕ → Bool
  machines_test t u = some_is (task_row P t) (λ p. some_is (task_row P u) (λ q. nat_lt t u
      && (p.station == q.station && shares p.start (task_length J N t p.station) q.start (task_length J N u q.station))))

  -- I: two transfers on one link share a tick
  abbrev pub links_test : ℕ → ℕ → Bool
  links_test i j = nat_lt i j && any (legs J N ρ P i) (λ a. any (legs J N ρ P j) (λ b. collide a b))

  -- the rule is broken by these two numbers
  abbrev pub test : Rule → ℕ → ℕ → Bool
  test Rows x y = rows_test x y
  test Predecessors x y = predecessors_test x
  test Routed x y = routed_test x
  test WithinLimit x y = limit_test x y
  test Departure x y = departure_test x
  test Causality x y = causality_test x y
  test Arrival x y = arrival_test x
  test Machines x y = machines_test x y
  test Links x y = links_test x y

  -- how many first numbers are looked at
  abbrev pub firsts : Rule → ℕ
  firsts Rows = 2
  firsts Predecessors = length J.edges
  firsts Routed = length J.edges
  firsts WithinLimit = 2
  firsts Departure = length J.edges
  firsts Causality = length J.edges
  firsts Arrival = length J.edges
  firsts Machines = length P.tasks
  firsts Links = length J.edges

  -- how many second numbers are looked at beside a first one
  abbrev pub seconds : Rule → ℕ → ℕ
  seconds Rows x = length P.tasks + length P.transfers
  seconds Predecessors x = 1
  seconds Routed x = 1
  seconds WithinLimit x = length P.tasks + length J.edges
  seconds Departure x = 1
  seconds Causality x = length (starts P x)
  seconds Arrival x = 1
  seconds Machines x = length P.tasks
  seconds Links x = length J.edges

  -- the verdict at one pair, if the rule is broken there
  abbrev pub spot : Rule → ℕ → ℕ → Option Verdict
  spot r x y = if test r x y then Some (Broken r x y) else None

  -- the verdict at the lowest pair by which the rule is broken
  unfoldable pub search_rule : Rule → Option Verdict
  search_rule r = lowest (λ x. lowest (spot r x) (seconds r x)) (firsts r)

  -- the verdict by the first of the rules that is broken
  unfoldable pub search_rules : List Rule → Option Verdict
  search_rules [] = None
  search_rules (r ∷ rs) = let later = search_rules rs in or_else (search_rule r) later

-- the rules in the order in which they are looked at
abbrev pub order : List Rule
order = Rows ∷ Predecessors ∷ Routed ∷ WithinLimit ∷ Departure ∷ Causality ∷ Arrival ∷ Machines ∷ Links ∷ []

-- what nothing is found against is lawful
abbrev pub found : Option Verdict → Verdict
found None = Lawful
found (Some v) = v

-- the verdict on a plan
unfoldable pub verdict : JobData → NetData → Ways → PlanData → Verdict
verdict J N ρ P = found (search_rules J N ρ P order)

-- a rule's place in the order
abbrev pub place : Rule → ℕ
place Rows = 0
place Predecessors = 1
place Routed = 2
place WithinLimit = 3
place Departure = 4
place Causality = 5
place Arrival = 6
place Machines = 7
place Links = 8

-- one pair of numbers is lower than another
abbrev pub Lower : ℕ → ℕ → ℕ → ℕ → Type 0
Lower u v x y = (u < x) ⊎ ((u ≡ x) × (v < y))

-- the rule is broken there, no earlier rule is broken, and this one is not at a lower pair
pub record FirstFault (J : JobData) (N : NetData) (ρ : Ways) (P : PlanData) (r : Rule) (x y : ℕ) : Type 0 where
  pub fault : Fault J N ρ P r x y
  pub earlier_hold : (s : Rule) (u v : ℕ) → place s < place r → Fault J N ρ P s u v → ⊥
  pub none_lower : (u v : ℕ) → Lower u v x y → Fault J N ρ P r u v → ⊥

-- the verdict is lawful exactly if there is no fault, and else names the first one
pub record NamesFirst (J : JobData) (N : NetData) (ρ : Ways) (P : PlanData) : Type 0 where
  pub lawful_exactly : (verdict J N ρ P ≡ Lawful) ↔ NoFault J N ρ P
  pub broken_first : (r : Rule) (x y : ℕ) → verdict J N ρ P ≡ Broken r x y → FirstFault J N ρ P r x y

abbrev pub NamesTheFirst : Type 0
NamesTheFirst = (J : JobData) (N : NetData) (ρ : Ways) (P : PlanData) → NamesFirst J N ρ P
