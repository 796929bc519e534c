use Rattle.std.specs.Io.KnownBytes.{append_known, Appends}
use Rattle.script.specs.Read.{spaced, line_words}
use Rattle.script.specs.Words.{words_left}
use Rattle.script.proofs.Spacing.{spaced_after}
use Rattle.script.proofs.write.write_words.Given as goal

abbrev pub invariant-loop-word : goal.invariant-loop-word
invariant-loop-word g l =
    Appends (g.W.Write.contents l.fn.out) (append_known (g.W.Write.contents l.out) (spaced_after (words_left l.word-iterator))) (spaced (line_words l.fn.line))
