use Rattle.std.proofs.Common.{◌≡◌, ◌+◌, length}
use Rattle.std.specs.Option.{option_map}
use Rattle.script.specs.Number.{numbers_of}
use Rattle.script.specs.Words.{words_left}
use Rattle.script.proofs.number.count_numbers.Given as goal

abbrev pub invariant-loop-word : goal.invariant-loop-word
invariant-loop-word l =
    (option_map (λ ns. length ns) (numbers_of (words_left l.fn.words)) ≡ option_map (λ ns. l.count + length ns) (numbers_of (words_left l.word-iterator))) × (l.count + length (words_left l.word-iterator) ≡ length (words_left l.fn.words))
