-- What is left of numbers and of hops, while they come one by one.
use Rattle.std.specs.Prelude.{ℕ, List, [], ◌∷◌, unwrap_or}
use Rattle.script.specs.Number.{numbers_of}
use Rattle.script.specs.Words.{words_left}
use Rattle.script.specs.declared.hop.Hops.{Hops}
use Rattle.script.specs.declared.line.HopWords.{HopWords}
use Rattle.script.specs.declared.number.Numbers.{Numbers}

-- the numbers of the words that are left, each of which is one
abbrev pub numbers_left : Numbers → List ℕ
numbers_left n = unwrap_or (numbers_of (words_left n.words)) []

-- each two numbers are a hop, and a last one without a second is none
abbrev pub paired : List ℕ → List HopWords
paired [] = []
paired (l ∷ []) = []
paired (l ∷ s ∷ ns) = record { link = l; station = s } ∷ paired ns

abbrev pub hops_left : Hops → List HopWords
hops_left h = paired (numbers_left h.numbers)
