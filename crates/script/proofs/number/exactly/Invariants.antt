use Rattle.std.proofs.Common.{◌≡◌, ◌++◌, length, take}
use Rattle.std.specs.Option.{option_map}
use Rattle.script.specs.Number.{numbers_of}
use Rattle.script.specs.Words.{words_left}
use Rattle.script.proofs.number.exactly.Given as goal

abbrev pub invariant-loop-number : goal.invariant-loop-number
invariant-loop-number g l =
    (numbers_of (words_left l.fn.words) ≡ option_map (λ ns. take l.number-index l.number-items ++ ns) (numbers_of (words_left l.words))) × (length l.number-items ≡ g.row.N)
