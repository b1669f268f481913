use Rattle.std.proofs.Common.{◌+◌, length}
use Rattle.pc_join.proofs.Walks.{IsWalk}
use Rattle.pc_join.proofs.numbers.covers_ranges.Given as goal

abbrev pub invariant-walk : goal.invariant-walk
invariant-walk l = IsWalk l.mine l.others l.held l.asked

abbrev pub decreases-walk : goal.decreases-walk
decreases-walk l = length l.held + length l.asked
