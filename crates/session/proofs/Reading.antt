-- How the statements of a script come from its lines, one by one.
use Rattle.std.proofs.Common.{◌≡◌, ℕ, ◌+◌, ◌≤◌, List, [], ◌∷◌, ◌++◌, length, drop, Some, None, true, false, sym, ap, ◌∙◌, refl, arith, if◌then◌else◌, ◌==◌, IsTrue, Ok, Err, Option, Result, subst}
use Rattle.std.specs.List.{slice_get}
use Rattle.std.specs.Result.{result_transpose}
use Rattle.std.proofs.lemmas.List.{length_push}
use Rattle.script.proofs.Parting.{few_ended}
use Rattle.script.specs.Data.{LineData, line_data, takes_memory}
use Rattle.script.specs.Lines.{lines_after, lines_of}
use Rattle.script.specs.Read.{Answer, silent, says, not_understood, read, TakesMemory, Reads}
use Rattle.script.specs.declared.error.LineError.{LineError}
use Rattle.script.specs.declared.error.LineError.TheVariants.{NotUnderstood, Memory}
use Rattle.script.specs.declared.line.Line.{Line}
use Rattle.session.specs.Statements.{Statement, stated, statements, IsFirst}

few_after : (l bs : List ℕ) → length (lines_after l bs) ≤ length l + length bs
few_after l [] = omega (arith, few_ended l)
few_after l (b ∷ bs) =
    elim (b == 10) as (λ ends. length (if ends then l ∷ lines_after [] bs else lines_after (l ++ b ∷ []) bs) ≤ length l + length (b ∷ bs)) [
      | true ↦ omega (arith, few_after [] bs)
      | false ↦ omega (arith, few_after (l ++ b ∷ []) bs, length_push l b)
    ]

-- a text has no more lines than bytes
pub few_lines : (bs : List ℕ) → length (lines_of bs) ≤ length bs
few_lines bs = omega (arith, few_after [] bs)

-- the line l comes, and ls' are left
pub record Comes (l : List ℕ) (ls ls' : List (List ℕ)) : Type 0 where
  pub first : Some l ≡ slice_get ls 0
  pub left : ls' ≡ drop 1 ls

pub split : (l : List ℕ) (ls ls' : List (List ℕ)) → Comes l ls ls' → ls ≡ l ∷ ls'
split l [] ls' p = let none : Some l ≡ None = p.first in cc
split l (m ∷ ls) ls' p = let same : Some l ≡ Some m = p.first in let left : ls' ≡ ls = p.left in cc

-- of its answer come the statements
pub first_stated : (n : ℕ) (l : List ℕ) (ls ls' : List (List ℕ)) → Comes l ls ls' → statements n ls ≡ stated (n + 1) l (read l) (statements (n + 1) ls')
first_stated n l ls ls' p = ap (statements n) (split l ls ls' p)

-- what it means that a line takes memory
takes : (a : Answer) → TakesMemory a → (d : LineData) × (a ≡ says d) × IsTrue (takes_memory d)
takes silent h = absurd h
takes (says d) h = (d, refl, h)
takes not_understood h = absurd h

module _ (n : ℕ) (before : List Statement) (l : List ℕ) (ls ls' : List (List ℕ)) (so_far : statements n ls ≡ before) (p : Comes l ls ls') where
  -- a line that is understood is given first
  line_given : (line : Line) → read l ≡ says (line_data line) → before ≡ record { number = n + 1; bytes = l; said = Some (line_data line) } ∷ statements (n + 1) ls'
  line_given line is = sym so_far ∙ first_stated n l ls ls' p ∙ ap (λ a. stated (n + 1) l a (statements (n + 1) ls')) is

  -- so is why a line was not read
  error_given : (e : LineError) → Reads (Err e) (read l) → IsFirst (Some (Err e)) (n + 1) l before (statements (n + 1) ls')
  error_given NotUnderstood is = sym so_far ∙ first_stated n l ls ls' p ∙ ap (λ a. stated (n + 1) l a (statements (n + 1) ls')) is
  error_given Memory h =
      let t = takes (read l) h in
      (t.0, sym so_far ∙ first_stated n l ls ls' p ∙ ap (λ a. stated (n + 1) l a (statements (n + 1) ls')) t.1, t.2)

  -- what a line answers, where it is no line without a word
  pub said_given : (r : Result (Option Line) LineError) (o : Option (Result Line LineError)) → o ≡ result_transpose r → (r ≡ Ok None → ⊥) → Reads r (read l) → IsFirst o (n + 1) l before (statements (n + 1) ls')
  said_given (Ok None) o same some h = absurd (some refl)
  said_given (Ok (Some line)) o same some h = subst (λ y. IsFirst y (n + 1) l before (statements (n + 1) ls')) (sym same) (line_given line h)
  said_given (Err e) o same some h = subst (λ y. IsFirst y (n + 1) l before (statements (n + 1) ls')) (sym same) (error_given e h)
