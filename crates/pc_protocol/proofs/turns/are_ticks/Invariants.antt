use Rattle.std.proofs.Common.{◌≡◌, true, take}
use Rattle.pc_messages.specs.Items.{pairs_in}
use Rattle.pc_protocol.specs.Protocol.{tells_none}
use Rattle.pc_protocol.proofs.turns.are_ticks.Given as goal

abbrev pub invariant-loop-item : goal.invariant-loop-item
invariant-loop-item l = tells_none (pairs_in (take l.item-index l.items)) ≡ true
