use Rattle.pc_kernel.specs.Reads.{seen}
use Rattle.pc_run_queue.specs.Runs.{runs_in}
use Rattle.pc_agent.specs.PlainAgent.{is_wanted, may_take}
use Rattle.pc_agent.proofs.Wanted.{IsAt, names_left}
use Rattle.pc_agent.proofs.steal.candidate.Given as goal

abbrev pub invariant-loop-wanted : goal.invariant-loop-wanted
invariant-loop-wanted l = IsAt (is_wanted (runs_in l.view l.cpu) l.list) (may_take (seen l.kernel) (runs_in l.view l.cpu) l.list) l.wanted

abbrev pub decreases-loop-wanted : goal.decreases-loop-wanted
decreases-loop-wanted l = names_left l.wanted
