use Rattle.std.proofs.Common.{take}
use Rattle.pc_kernel.specs.Reads.{seen, kinds_read}
use Rattle.pc_threads.specs.Settling.{AreOfRun}
use Rattle.pc_threads.proofs.book.settling.first_strange.Given as goal

abbrev pub invariant-loop-place : goal.invariant-loop-place
invariant-loop-place l = AreOfRun (kinds_read (seen l.kernel)) (take l.place l.views)
