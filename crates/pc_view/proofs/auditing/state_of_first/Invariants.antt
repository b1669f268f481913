use Rattle.std.proofs.Common.{◌≡◌, take, Some}
use Rattle.pc_messages.specs.State.{state_of}
use Rattle.pc_view.proofs.auditing.state_of_first.Given as goal

abbrev pub invariant-loop-place : goal.invariant-loop-place
invariant-loop-place l = state_of (take l.place l.history) ≡ Some l.state
