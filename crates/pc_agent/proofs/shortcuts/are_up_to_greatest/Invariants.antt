use Rattle.std.proofs.Common.{take}
use Rattle.pc_run_queue.specs.Runs.{AreUpTo}
use Rattle.pc_run_queue.specs.declared.run_queue.TheConstants.{GREATEST_RANK}
use Rattle.pc_agent.proofs.shortcuts.are_up_to_greatest.Given as goal

abbrev pub invariant-loop-row : goal.invariant-loop-row
invariant-loop-row l = AreUpTo GREATEST_RANK (take l.row-index l.noted)
