use Rattle.std.proofs.Common.{length}
use Rattle.pc_join.proofs.Walks.{IsPart}
use Rattle.pc_join.proofs.numbers.is_in.Given as goal

abbrev pub invariant-loop-part : goal.invariant-loop-part
invariant-loop-part l = IsPart l.ranges l.part l.n

abbrev pub decreases-loop-part : goal.decreases-loop-part
decreases-loop-part l = length l.part
