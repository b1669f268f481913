use Rattle.std.proofs.Common.{rules}
use Rattle.pc_queue.proofs.Count.{discounted}
use Rattle.pc_queue.proofs.queue.CpuQueue.consume.Goals as goal

pub loop-place-preserved : goal.loop-place-preserved
loop-place-preserved c = record {
  queue = search rules;
  counted = discounted c.loop-place.self-inside.held c.discount.new.held c.loop-place.self-inside.queue.items c.loop-place.place c.item.result.now c.item.ensures c.discount.ensures c.loop-place.invariant.counted;
}
