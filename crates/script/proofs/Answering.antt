-- A line that is refused is refused as its words are.
use Rattle.std.proofs.Common.{Some, None, Err, Option, ap}
use Rattle.script.specs.Data.{LineData}
use Rattle.script.specs.Read.{Reads, answered}
use Rattle.script.specs.Tell.{TellsLine}
use Rattle.script.specs.declared.error.LineError.{LineError}
use Rattle.script.specs.declared.error.LineError.TheVariants.{NotUnderstood, Memory}

pub refused : (e : LineError) (said : Option LineData) → TellsLine (Err e) said → Reads (Err e) (answered said)
refused NotUnderstood said told = ap answered told
refused Memory None told = told
refused Memory (Some d) told = told
