use Rattle.std.proofs.Common.{◌≡◌, ◌^◌, ◌<◌, drop}
use Rattle.std.specs.Str.{all_ascii_digits}
use Rattle.script.specs.Number.{value_after}
use Rattle.script.proofs.number.read_number.Given as goal

abbrev pub invariant-loop-byte : goal.invariant-loop-byte
invariant-loop-byte l =
    ((all_ascii_digits (drop l.byte-index l.word) ≡ all_ascii_digits l.word) × (value_after l.value (drop l.byte-index l.word) ≡ value_after 0 l.word)) × (l.value < 2 ^ 32)
