use Rattle.std.proofs.Common.{◌≡◌, take}
use Rattle.pc_agent.specs.PlainAgent.{threads_in}
use Rattle.pc_agent.proofs.shortcuts.list_threads.Given as goal

abbrev pub invariant-loop-item : goal.invariant-loop-item
invariant-loop-item l = l.threads.items ≡ threads_in (take l.item-index l.items)
