-- A step is taken past a message alone.
use Rattle.std.proofs.Common.{◌≤◌, length}
use Rattle.pc_thread_view.proofs.held.near_place.Given as goal

abbrev pub invariant-loop : goal.invariant-loop
invariant-loop l = l.near ≤ length l.early
