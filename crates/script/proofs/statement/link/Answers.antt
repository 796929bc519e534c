use Rattle.std.proofs.Common.{rules, vec_items}
use Rattle.script.specs.Left.{numbers_left}
use Rattle.script.specs.Words.{words_left}
use Rattle.script.proofs.Drained.{drained}
use Rattle.script.proofs.Numbers.{next_read}
use Rattle.script.proofs.statement.link.Goals as goal

pub returns : goal.returns
returns c =
    let first = next_read (words_left c.args.words) _ c.in_ok-speed.speed c.in_ok-speed.ensures.number c.in_ok-speed.ensures.rest in
    let left = drained numbers_left c.in_ok-numbers.numbers (vec_items c.in_ok-stations.stations) c.in_ok-stations.ensures in
    search rules
