-- The last messages are moved, and the others stand where they stood.
use Rattle.std.proofs.Common.{◌≡◌, ◌≤◌, ◌+◌, ◌-◌, length, drop}
use Rattle.std.proofs.Math.Seq.{paste}
use Rattle.pc_thread_view.proofs.moves.move_up.Given as goal

abbrev pub invariant-loop-left : goal.invariant-loop-left
invariant-loop-left g l = ((length l.slots ≡ length l.initial.slots) × (l.left ≤ l.count)) × (l.slots ≡ paste l.initial.slots (l.to + l.left) (drop (l.from + l.left) l.initial.slots) (l.count - l.left))

abbrev pub decreases-loop-left : goal.decreases-loop-left
decreases-loop-left g l = l.left
