use Rattle.std.proofs.Common.{rules, vec_items}
use Rattle.script.specs.Left.{numbers_left}
use Rattle.script.specs.Words.{words_left}
use Rattle.script.proofs.Drained.{drained}
use Rattle.script.proofs.Numbers.{next_read}
use Rattle.script.proofs.statement.starts.Goals as goal

pub returns-in_ok-starts-in-0-to-223-1-to-15 : goal.returns-in_ok-starts-in-0-to-223-1-to-15
returns-in_ok-starts-in-0-to-223-1-to-15 c =
    let first = next_read (words_left c.args.words) _ c.in_ok-edge.edge c.in_ok-edge.ensures.number c.in_ok-edge.ensures.rest in
    let left = drained numbers_left c.in_ok-ticks.ticks (vec_items c.in_ok-starts-in-0-to-223-1-to-15.starts) c.in_ok-starts-in-0-to-223-1-to-15.ensures in
    search rules
