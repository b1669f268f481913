-- The first messages are moved, and the others stand where they stood.
use Rattle.std.proofs.Common.{◌≡◌, ◌≤◌, ◌-◌, length, drop}
use Rattle.std.proofs.Math.Seq.{paste}
use Rattle.pc_thread_view.proofs.moves.move_down.Given as goal

abbrev pub invariant-loop-done : goal.invariant-loop-done
invariant-loop-done g l = ((length l.slots ≡ length l.initial.slots) × (l.done ≤ l.count)) × (l.slots ≡ paste l.initial.slots l.to (drop l.from l.initial.slots) l.done)

abbrev pub decreases-loop-done : goal.decreases-loop-done
decreases-loop-done g l = l.count - l.done
