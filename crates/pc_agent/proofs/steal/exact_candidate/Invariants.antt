use Rattle.pc_kernel.specs.Reads.{seen}
use Rattle.pc_policy.specs.Rankings.{ranks_of}
use Rattle.pc_run_queue.specs.Runs.{runs_in}
use Rattle.pc_agent.specs.PlainAgent.{candidates, is_wanted, known_in}
use Rattle.pc_agent.specs.Inner.Exactly.{exact_by}
use Rattle.pc_agent.proofs.Firsts.{FirstPast, IsWanted}
use Rattle.pc_agent.proofs.Wanted.{names_left}
use Rattle.pc_agent.proofs.steal.exact_candidate.Given as goal

abbrev pub invariant-loop-wanted : goal.invariant-loop-wanted
invariant-loop-wanted l = IsWanted (is_wanted (runs_in l.view l.cpu) l.list) l.wanted × FirstPast (candidates (exact_by (ranks_of l.order)) (seen l.kernel) (known_in l.view) l.cpu l.list) l.wanted l.first

abbrev pub decreases-loop-wanted : goal.decreases-loop-wanted
decreases-loop-wanted l = names_left l.wanted
