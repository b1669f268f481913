use Rattle.std.proofs.Common.{take}
use Rattle.pc_messages.specs.Run.{Run}
use Rattle.pc_join.specs.Sets.{IsSameSet}
use Rattle.pc_view.specs.Views.{IsOfRun, pairs_of}
use Rattle.pc_threads.specs.Settling.{AreOfRun, pairs_of_all}
use Rattle.pc_threads.proofs.book.settling.merge_all.Given as goal

abbrev pub invariant-loop-view : goal.invariant-loop-view
invariant-loop-view l =
    IsSameSet (pairs_of_all (take l.view-index l.views)) (pairs_of l.merged)
    × ((run : Run) → AreOfRun run l.views → IsOfRun run l.merged)
