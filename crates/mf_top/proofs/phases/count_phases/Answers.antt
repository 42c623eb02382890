use Rattle.std.proofs.Common.{arith}
use Rattle.mf_top.proofs.Running.{count_next, count_fits}
use Rattle.mf_top.proofs.phases.count_phases.Goals as goal

pub overflow_add-count : goal.overflow_add-count
overflow_add-count c =
    let few = count_fits c.args.script.now.items c.loop-item.item-index c.loop-item.count c.loop-item.invariant
    c.requires.phases in
    record { fits = omega (arith, few, c.phases_of-count.ensures.few) }

pub loop-item-preserved : goal.loop-item-preserved
loop-item-preserved c =
    count_next c.args.script.now.items c.items-item-items.result.now c.loop-item.item-index c.item-item.result
    c.loop-item.count
    c.phases_of-count.result c.items-item-items.ensures.value c.loop-item-test.true c.item-item.is c.loop-item.invariant
    c.phases_of-count.ensures.count
