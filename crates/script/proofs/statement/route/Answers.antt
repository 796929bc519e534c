use Rattle.std.proofs.Common.{rules, vec_items}
use Rattle.script.specs.Left.{hops_left}
use Rattle.script.specs.Words.{words_left}
use Rattle.script.proofs.Drained.{drained}
use Rattle.script.proofs.Numbers.{next_read}
use Rattle.script.proofs.statement.route.Goals as goal

pub returns : goal.returns
returns c =
    let first = next_read (words_left c.args.words) _ c.in_ok-from.from c.in_ok-from.ensures.number c.in_ok-from.ensures.rest in
    let second = next_read (words_left c.next_number.new.words) _ c.in_ok-to.to c.in_ok-to.ensures.number c.in_ok-to.ensures.rest in
    let left = drained hops_left c.in_ok-hops.hops (vec_items c.in_ok-hops-2.hops) c.in_ok-hops-2.ensures in
    search rules
