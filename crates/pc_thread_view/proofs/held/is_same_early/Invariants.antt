use Rattle.std.proofs.Common.{◌≡◌, ◌↔◌, length}
use Rattle.pc_thread_view.proofs.held.is_same_early.Given as goal

abbrev pub invariant-walk : goal.invariant-walk
invariant-walk l = (l.first ≡ l.other) ↔ (l.left ≡ l.right)

abbrev pub decreases-walk : goal.decreases-walk
decreases-walk l = length l.left
