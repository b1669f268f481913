use Rattle.std.proofs.Common.{◌≡◌}
use Rattle.pc_protocol.specs.Protocol.{others}
use Rattle.pc_protocol.proofs.steps.others_of.Given as goal

abbrev pub invariant-loop-other : goal.invariant-loop-other
invariant-loop-other l = l.all.items ≡ others l.cpu l.other
