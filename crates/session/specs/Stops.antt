-- Why a script is followed no further, and what is written until then.
use Rattle.std.specs.Prelude.{◌≡◌, ℕ, List, Some, None, Ok, Err, Option, Result}
use Rattle.std.specs.Io.KnownBytes.{append_known, Keeps, Appends}
use Rattle.script.specs.declared.error.LineError.{LineError}
use Rattle.script.specs.declared.error.LineError.TheVariants.{NotUnderstood as LineNotUnderstood, Memory}
use Rattle.session.specs.Printing.{maker_name, refusal_line, not_understood_line}
use Rattle.session.specs.declared.stop.Stop.{Stop}
use Rattle.session.specs.declared.stop.Stop.TheVariants.{NotUnderstood, Refused, Failed}

-- memory or the output failed
abbrev pub IsFailure : Stop → Type 0
IsFailure NotUnderstood = ⊥
IsFailure (Refused maker r) = ⊥
IsFailure (Failed e) = Unit {0}

-- why a line was not read is why the script is followed no further
abbrev pub StopsFor : LineError → Stop → Type 0
StopsFor LineNotUnderstood stop = stop ≡ NotUnderstood
StopsFor Memory stop = IsFailure stop

-- one line was carried out: its text is written. Where it has none it is not understood, and nothing is written
abbrev pub Prints : Result (Unit {0}) Stop → Option (List ℕ) → Option (List ℕ) → Option (List ℕ) → Type 0
Prints (Ok u) old new None = ⊥
Prints (Ok u) old new (Some text) = Appends old new text
Prints (Err NotUnderstood) old new None = Keeps old new
Prints (Err NotUnderstood) old new (Some text) = ⊥
Prints (Err (Refused maker r)) old new text = ⊥
Prints (Err (Failed e)) old new text = Unit {0}

-- the text is written, but for its last line where that says that line n is not understood, or why something was refused
abbrev pub Writes : Result (Unit {0}) Stop → Option (List ℕ) → Option (List ℕ) → ℕ → List ℕ → Type 0
Writes (Ok u) old new n text = Appends old new text
Writes (Err NotUnderstood) old new n text = Appends old (append_known new (not_understood_line n)) text
Writes (Err (Refused maker r)) old new n text = Appends old (append_known new (refusal_line (maker_name maker) r)) text
Writes (Err (Failed e)) old new n text = Unit {0}
