use Rattle.std.proofs.Common.{drop}
use Rattle.pc_delta.specs.Parts.{tells_of}
use Rattle.pc_run_queue.specs.Runs.{runs_in}
use Rattle.pc_agent.specs.Inner.Wanted.{HasAllBut}
use Rattle.pc_agent.proofs.shortcuts.keep_told.Given as goal

abbrev pub invariant-loop-part : goal.invariant-loop-part
invariant-loop-part l = HasAllBut (tells_of l.parts) (runs_in l.view l.cpu) l.initial.names → HasAllBut (tells_of (drop l.part-index l.parts)) (runs_in l.view l.cpu) l.names
