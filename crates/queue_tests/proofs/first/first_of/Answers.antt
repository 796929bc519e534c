use Rattle.std.proofs.Common.{arith, rules}
use Rattle.queue_tests.proofs.Held.{held_more, first_of_held}
use Rattle.queue_tests.proofs.first.first_of.Goals as goal

pub loop-item-preserved : goal.loop-item-preserved
loop-item-preserved g c =
    let l = c.loop-item in record {
      same_room = grind arith;
      count = search rules;
      held = held_more _ _ _ l.item-index _ _ c.loop-item-test.true c.item-item.is l.invariant.held (search rules);
    }

pub returns : goal.returns
returns g c = λ _.
    let p = c.pop.ensures in first_of_held _ _ _ c.loop-item.item-index _ c.loop-item-test.false c.loop-item.invariant.held p.first p.empty
