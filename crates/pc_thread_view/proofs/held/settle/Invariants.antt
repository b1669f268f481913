use Rattle.std.proofs.Common.{length}
use Rattle.pc_thread_view.specs.Inner.Held.{told}
use Rattle.pc_thread_view.proofs.Settling.{IsSettling}
use Rattle.pc_thread_view.proofs.held.settle.Given as goal

abbrev pub invariant-loop : goal.invariant-loop
invariant-loop l = IsSettling (told l.fn.held) (told l.held)

abbrev pub decreases-loop : goal.decreases-loop
decreases-loop l = length l.held.early.items
