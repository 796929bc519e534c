-- What the tests before a booking compute: the lowest number of a list, and a limit of the bookings that are needed.
use Rattle.std.proofs.Common.{◌≡◌, ℕ, ◌+◌, ◌*◌, ◌≤◌, min, Bool, true, false, List, [], ◌∷◌, filter, length, Some, None, Option, ◌==◌, refl, ap, ◌∙◌, ⊎_elim, arith, cond}
use Rattle.std.specs.List.{fold, reduce, sum_by, enumerate_from}
use Rattle.std.specs.Option.{option_map}
use Rattle.std.proofs.lemmas.Bool.{cases_Bool, cond-true, cond-false}
use Rattle.std.proofs.lemmas.List.Sums.{sum_by-cons}
use Rattle.model.specs.Data.{NetData}
use Rattle.model.specs.Plans.{PlanData, task_row}
use Rattle.model.specs.declared.job.Edge.{Edge}
use Rattle.model.specs.declared.plan.Placement.{Placement}
use Rattle.routes.specs.Hops.{hops_of}
use Rattle.routes.specs.Laws.{RouteLaws}
use Rattle.routes.specs.Legs.{Ways, way_between}
use Rattle.routes.specs.declared.hop.Hop.{Hop}
use Rattle.routes.proofs.Along.{sound}
use Rattle.timetable.specs.Earliest.{lesser, least}
use Rattle.planner.specs.Edges.{way_to}

-- the least of some numbers, taken one after the other

min_lesser : (x y : ℕ) (o : Option ℕ) → lesser (min x y) o ≡ min x (lesser y o)
min_lesser x y None = refl
min_lesser x y (Some z) = omega arith

fold_lesser : (x : ℕ) (xs : List ℕ) → fold min x xs ≡ lesser x (least xs)
fold_lesser x [] = refl
fold_lesser x (y ∷ ys) = fold_lesser (min x y) ys ∙ min_lesser x y (least ys)

pub least_taken : (xs : List ℕ) → reduce min xs ≡ least xs
least_taken [] = refl
least_taken (x ∷ xs) = ap Some (fold_lesser x xs)

-- an edge takes at most 15 bookings, and the edges of a job at most 15 for each of them

few_hops : (N : NetData) (ρ : Ways) → RouteLaws N ρ → (a b : ℕ) (route : Option (List Hop)) → ρ a b ≡ route → length (hops_of route) ≤ 15
few_hops N ρ laws a b None is = omega arith
few_hops N ρ laws a b (Some hops) is = (sound N ρ laws a b hops is).few_hops

pub few_between : (N : NetData) (ρ : Ways) → RouteLaws N ρ → (p q : Option Placement) → length (hops_of (way_between ρ p q)) ≤ 15
few_between N ρ laws None q = omega arith
few_between N ρ laws (Some p) None = omega arith
few_between N ρ laws (Some p) (Some q) = go (p.station == q.station)
  where
    go : (b : Bool) → length (hops_of (cond b (Some []) (ρ p.station q.station))) ≤ 15
    go true = omega arith
    go false = few_hops N ρ laws p.station q.station (ρ p.station q.station) refl

pub sum_few : {X : Type 0} (f : ℕ × X → ℕ) (p : ℕ × X → Bool) → ((x : ℕ × X) → f x ≤ 15) → (n : ℕ) (xs : List X) → sum_by f (filter p (enumerate_from n xs)) ≤ length xs * 15
sum_few f p each n [] = omega arith
sum_few f p each n (x ∷ xs) =
    let rest = sum_few f p each (n + 1) xs in
    let here = each (n, x) in
    let more = sum_by-cons f (n, x) (filter p (enumerate_from (n + 1) xs)) in
    ⊎_elim
    (λ passes. let e = cond-true (p (n, x)) ((n, x) ∷ filter p (enumerate_from (n + 1) xs)) (filter p (enumerate_from (n + 1) xs)) passes in let is = ap (sum_by f) e in omega (arith, is, more, rest, here))
    (λ fails. let e = cond-false (p (n, x)) ((n, x) ∷ filter p (enumerate_from (n + 1) xs)) (filter p (enumerate_from (n + 1) xs)) fails in let is = ap (sum_by f) e in omega (arith, is, rest, here))
    (cases_Bool (p (n, x)))

pub hops_short : (N : NetData) (ρ : Ways) → RouteLaws N ρ → (P : PlanData) (m : ℕ) (e : Edge) (k : ℕ) → Some k ≡ option_map length (way_to ρ P m e) → k ≤ 15
hops_short N ρ laws P m e k some = go (way_to ρ P m e) some (few_between N ρ laws (task_row P e.from) (Some (record { station = m; start = 0 })))
  where
    go : (w : Option (List Hop)) → Some k ≡ option_map length w → length (hops_of w) ≤ 15 → k ≤ 15
    go None some few = cc some
    go (Some hops) some few = let same : k ≡ length hops = cc some in omega (arith, same, few)
