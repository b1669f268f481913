use Rattle.std.proofs.Common.{ap, ◌∙◌}
use Rattle.pc_agent.proofs.Lists.{message_thread, tick_thread}
use Rattle.pc_agent.proofs.shortcuts.list_threads.Goals.{in-Thread+in_ok-push-in-Thread, in-Tick}
use Rattle.pc_agent.proofs.shortcuts.list_threads.Goals as goal

pub loop-item-preserved : goal.loop-item-preserved
loop-item-preserved c = elim c.match-item.branch [
  | in-Thread+in_ok-push-in-Thread w ↦
      ap (λ v. v.items) w.threads-is ∙ message_thread c.args.items.now c.loop-item.item-index c.item-item.result w.in-Thread.message c.loop-item.threads.items w.push.new.self.items c.item-item.is c.loop-item-test.true w.in-Thread.is
      c.loop-item.invariant w.in_ok-push-in-Thread.ensures.items
  | in-Tick w ↦
      ap (λ v. v.items) w.threads-is ∙ tick_thread c.args.items.now c.loop-item.item-index c.item-item.result _ c.loop-item.threads.items c.item-item.is c.loop-item-test.true w.in-Tick.is c.loop-item.invariant
]
