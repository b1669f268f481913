use Rattle.std.proofs.Common.{take}
use Rattle.pc_protocol.specs.Turning.{TakesInAll}
use Rattle.pc_protocol.proofs.turns.take_in.Given as goal

abbrev pub invariant-loop-delta : goal.invariant-loop-delta
invariant-loop-delta l = TakesInAll l.cpu (take l.delta-index l.mail) l.initial.world l.world
