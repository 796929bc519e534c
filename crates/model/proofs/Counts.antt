-- The counts and tests of this crate by those of the library, which chains of iterators compute.
use Rattle.std.proofs.Common.{◌≡◌, ◌+◌, Bool, true, false, cond, List, [], ◌∷◌, count_by, is_some, Some, None, Option, nat_lt, refl, ap, ◌∙◌, sym, zero-add, arith}
use Rattle.std.proofs.lemmas.Bool.Decides.{nat_tests}
use Rattle.std.proofs.lemmas.List.Recursion.{is_sum_by}
use Rattle.std.specs.List.{list_any}
use Rattle.model.specs.NetworkLimits.{is_a_machine, has_machine}
use Rattle.model.specs.Plans.{count_placed}
use Rattle.model.specs.Stations.{count_true}
use Rattle.model.specs.declared.network.Station.{Station}
use Rattle.model.specs.declared.network.Station.TheVariants.{Machine, Switch}
use Rattle.model.specs.declared.plan.Placement.{Placement}

pub true_by : (bs : List Bool) → count_true bs ≡ count_by (λ b. b) bs
true_by = is_sum_by count_true (λ b. cond b 1 0) refl (λ _ _. refl)

pub placed_by : (rows : List (Option Placement)) → count_placed rows ≡ count_by is_some rows
placed_by = is_sum_by count_placed (λ r. cond (is_some r) 1 0) refl (λ r rs. one_more r rs)
  where
    one_more : (r : Option Placement) (rs : List (Option Placement)) → count_placed (r ∷ rs) ≡ cond (is_some r) 1 0 + count_placed rs
    one_more None rs = sym (zero-add (count_placed rs))
    one_more (Some p) rs = refl

pub some_true : (bs : List Bool) → list_any (λ b. b) bs ≡ nat_lt 0 (count_true bs)
some_true [] = refl
some_true (true ∷ bs) = grind (arith, nat_tests)
some_true (false ∷ bs) = some_true bs ∙ ap (nat_lt 0) (sym (zero-add (count_true bs)))

pub machine_by : (ss : List Station) → has_machine ss ≡ list_any is_a_machine ss
machine_by [] = refl
machine_by (Machine v ∷ ss) = refl
machine_by (Switch ∷ ss) = machine_by ss
