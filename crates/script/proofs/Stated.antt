-- What a line says, by its first word and its numbers.
use Rattle.std.proofs.Common.{◌≡◌, Bool, List, ℕ, Some, None, Ok, Err, Option, Result, IsErrAnd, refl, sym, subst}
use Rattle.std.specs.Option.{option_map, option_and_then, ok_or}
use Rattle.std.specs.Str.{bytes_eq}
use Rattle.script.specs.Data.{LineData}
use Rattle.script.specs.Statement.{form_line, numbered_of}
use Rattle.script.specs.Tell.{TellsLine}
use Rattle.script.specs.Words.{same_word}
use Rattle.script.specs.declared.error.LineError.{LineError}
use Rattle.script.specs.declared.error.LineError.TheVariants.{NotUnderstood}
use Rattle.script.specs.declared.form.Form.{Form}
use Rattle.script.specs.declared.line.Line.{Line}

pub tested : (w p q : List ℕ) (r : Bool) → r ≡ bytes_eq w q → q ≡ p → same_word w p ≡ r
unfolding same_word
tested w p q r is same = cc

pub passed_on : (r : Result Line LineError) (e : LineError) (said : Option LineData) → IsErrAnd r (λ f. f ≡ e) → TellsLine (Err e) said → TellsLine r said
passed_on (Ok l) e said is told = absurd is
passed_on (Err f) e said is told = subst (λ g. TellsLine (Err g) said) (sym is) told

pub not_named : (e : LineError) (f : Option Form) (ns : Option (List ℕ)) → Err e ≡ ok_or f NotUnderstood → TellsLine (Err e) (numbered_of f ns)
not_named e None ns is = let same : e ≡ NotUnderstood = cc in rw same refl
not_named e (Some f) ns is = cc

pub not_numbers : {N : Type 0} (e : LineError) (f : Option Form) (o : Option N) (left : N → List ℕ) → Err e ≡ ok_or o NotUnderstood → TellsLine (Err e) (numbered_of f (option_map left o))
not_numbers e None None left is = let same : e ≡ NotUnderstood = cc in rw same refl
not_numbers e (Some f) None left is = let same : e ≡ NotUnderstood = cc in rw same refl
not_numbers e f (Some n) left is = cc

pub told_by_form : (r : Result Line LineError) (form : Form) (f : Option Form) (ns : Option (List ℕ)) → Ok form ≡ ok_or f NotUnderstood → TellsLine r (option_and_then (form_line form) ns) → TellsLine r (numbered_of f ns)
told_by_form r form None ns is told = cc
told_by_form r form (Some f) ns is told = let form' : f ≡ form = cc in rw form' told
