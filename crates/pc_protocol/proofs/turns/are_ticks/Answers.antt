use Rattle.std.proofs.Common.{◌∙◌, Some, ap}
use Rattle.pc_protocol.proofs.Turning.{item_at, one_tells, tick_more}
use Rattle.pc_protocol.proofs.turns.are_ticks.Goals as goal

pub returns-in-Thread : goal.returns-in-Thread
returns-in-Thread c =
    one_tells c.args.items.now c.loop-item.item-index c.in-Thread.field-0
    (item_at c.args.items.now c.loop-item.item-index c.item-item.result c.item-item.result c.loop-item-test.true c.item-item.is ∙ ap Some c.in-Thread.is)

pub loop-item-preserved : goal.loop-item-preserved
loop-item-preserved c =
    tick_more c.args.items.now c.loop-item.item-index c.in_default.field-0
    (item_at c.args.items.now c.loop-item.item-index c.item-item.result c.item-item.result c.loop-item-test.true c.item-item.is ∙ ap Some c.in_default.is) c.loop-item.invariant
