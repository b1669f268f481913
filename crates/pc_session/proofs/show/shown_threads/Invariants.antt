use Rattle.std.proofs.Common.{◌≡◌, ◌++◌}
use Rattle.std.specs.FinMap as map
use Rattle.pc_session.specs.Inner.Showing.{rows_told}
use Rattle.pc_session.proofs.show.shown_threads.Given as goal

abbrev pub invariant-loop-thread : goal.invariant-loop-thread
invariant-loop-thread l = l.rows ++ rows_told l.thread-iterator ≡ rows_told (map.entries l.view.threads)
