-- The rows of a plan: what a write leaves, and how long they are.
use Rattle.std.proofs.Common.{◌≡◌, ℕ, zero, suc, ◌≤◌, true, List, [], ◌∷◌, map, length, get_or, set, Option, refl, arith}
use Rattle.std.proofs.lemmas.List.{length-take}
use Rattle.std.proofs.lemmas.Bool.Decides.{nat_tests}
use Rattle.model.specs.Rows.{station_fits, stations_fit}
use Rattle.model.specs.Plans.{starts_of}
use Rattle.model.specs.declared.plan.Placement.{Placement}
use Rattle.model.specs.declared.plan.TransferRow.{TransferRow}

pub fits_set : (rows : List (Option Placement)) (t : ℕ) (row : Option Placement) → stations_fit rows ≡ true → station_fits row ≡ true → stations_fit (set rows t row) ≡ true
fits_set [] t row all here = refl
fits_set (r ∷ rs) zero row all here = grind (arith, nat_tests)
fits_set (r ∷ rs) (suc t) row all here = let later = fits_set rs t row (grind (arith, nat_tests)) here in grind (arith, nat_tests)

-- a transfer row has at most 15 starts
pub starts_few : (rows : List TransferRow) (e : ℕ) → length (get_or (map starts_of rows) e []) ≤ 15
starts_few [] e = omega arith
starts_few (r ∷ rs) zero = omega (arith, length-take r.count r.starts, r.few)
starts_few (r ∷ rs) (suc e) = starts_few rs e
