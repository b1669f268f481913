use Rattle.pc_join.proofs.Comparing.{AreInStep}
use Rattle.pc_join.proofs.leaves.Leaves.is_same.Given as goal

abbrev pub invariant-loop-name : goal.invariant-loop-name
invariant-loop-name g l = AreInStep g.V.PartialEq.eq l.self l.other l.name-iterator l.others
