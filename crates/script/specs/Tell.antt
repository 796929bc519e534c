-- What the reader's answers tell of the bytes.
use Rattle.std.specs.Prelude.{◌≡◌, Bool, IsTrue, Some, None, Ok, Err, Option, Result, IsSomeAnd}
use Rattle.script.specs.Data.{LineData, line_data, takes_memory}
use Rattle.script.specs.declared.error.LineError.{LineError}
use Rattle.script.specs.declared.error.LineError.TheVariants.{NotUnderstood, Memory}
use Rattle.script.specs.declared.line.Line.{Line}

-- the answer r, whose values mean what f says, tells what the bytes say, if anything.
-- Memory can run out only where they say something that takes memory.
abbrev pub Tells : {X Y : Type 0} → (X → Y) → (Y → Bool) → Result X LineError → Option Y → Type 0
Tells f takes (Ok x) said = said ≡ Some (f x)
Tells f takes (Err NotUnderstood) said = said ≡ None
Tells f takes (Err Memory) said = IsSomeAnd said (λ y. IsTrue (takes y))

abbrev pub TellsLine : Result Line LineError → Option LineData → Type 0
TellsLine r said = Tells line_data takes_memory r said
