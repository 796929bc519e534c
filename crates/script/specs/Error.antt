-- What is printed of why a line was not read.
use Rattle.std.specs.Prelude.{ℕ, List, codes}
use Rattle.script.specs.declared.error.LineError.{LineError}
use Rattle.script.specs.declared.error.LineError.TheVariants.{NotUnderstood, Memory}

abbrev pub line_error_text : LineError → List ℕ
line_error_text NotUnderstood = codes "not understood"
line_error_text Memory = codes "no memory"
