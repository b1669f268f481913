use Rattle.std.proofs.Common.{◌+◌, length}
use Rattle.pc_thread_view.proofs.Among.{IsWalk}
use Rattle.pc_thread_view.proofs.held.covers_early.Given as goal

abbrev pub invariant-walk : goal.invariant-walk
invariant-walk l = IsWalk l.upto l.mine l.others l.held l.asked

abbrev pub decreases-walk : goal.decreases-walk
decreases-walk l = length l.held + length l.asked
