use Rattle.std.proofs.Common.{◌+◌, length}
use Rattle.pc_join.specs.Inner.Ranges.{IsMerging}
use Rattle.pc_join.proofs.numbers.merge.Given as goal

abbrev pub invariant-turns : goal.invariant-turns
invariant-turns l = IsMerging l.fn.joined.items l.fn.first l.fn.other l.joined.items l.left l.right

abbrev pub decreases-turns : goal.decreases-turns
decreases-turns l = length l.left + length l.right
