use Rattle.std.proofs.Common.{◌+◌, length}
use Rattle.pc_thread_view.specs.Inner.Taking.{IsTaking}
use Rattle.pc_thread_view.specs.Inner.Held.{told}
use Rattle.pc_thread_view.proofs.held.merge.Given as goal

abbrev pub invariant-turns : goal.invariant-turns
invariant-turns l = IsTaking (told l.fn.joined) l.fn.first l.fn.other (told l.joined) l.left l.right

abbrev pub decreases-turns : goal.decreases-turns
decreases-turns l = length l.left + length l.right
