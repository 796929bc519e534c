-- The hops that numbers name.
use Rattle.std.proofs.Common.{◌≡◌, ℕ, suc, ◌/◌, ◌%◌, cond, eqb, List, [], ◌∷◌, length, Some, None, Option, refl, arith}
use Rattle.std.specs.Option.{option_map}
use Rattle.std.proofs.lemmas.Bool.Decides.{nat_tests}
use Rattle.script.specs.Left.{paired}
use Rattle.script.specs.Statement.{hops_of}
use Rattle.script.specs.declared.line.HopWords.{HopWords}

-- two more numbers are one more hop
pub one_more : (h : HopWords) (o : Option (List HopWords)) (hs : List HopWords) (n : ℕ) → o ≡ cond (eqb (n % 2) 0) (Some hs) None → option_map (λ rest. h ∷ rest) o ≡ cond (eqb (suc (suc n) % 2) 0) (Some (h ∷ hs)) None
one_more h None hs n is = grind (arith, nat_tests)
one_more h (Some rest) hs n is = grind (arith, nat_tests)

-- the numbers are hops if they come in pairs
pub hops_paired : (ns : List ℕ) → hops_of ns ≡ cond (eqb (length ns % 2) 0) (Some (paired ns)) None
hops_paired [] = refl
hops_paired (l ∷ []) = refl
hops_paired (l ∷ s ∷ ns) = one_more (record { link = l; station = s }) (hops_of ns) (paired ns) (length ns) (hops_paired ns)

pub paired_length : (ns : List ℕ) → length (paired ns) ≡ length ns / 2
paired_length [] = refl
paired_length (l ∷ []) = refl
paired_length (l ∷ s ∷ ns) = omega (arith, paired_length ns)
