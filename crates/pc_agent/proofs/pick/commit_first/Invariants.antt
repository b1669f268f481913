use Rattle.std.proofs.Common.{◌≡◌, length}
use Rattle.pc_kernel.specs.Reads.{seen}
use Rattle.pc_agent.specs.PlainAgent.{ready_list}
use Rattle.pc_agent.specs.Inner.Shortcuts.{StayTrue}
use Rattle.pc_agent.proofs.pick.commit_first.Given as goal

abbrev pub invariant-loop-name : goal.invariant-loop-name
invariant-loop-name l =
    (l.kernel ≡ l.initial.kernel)
    × (ready_list (seen l.initial.kernel) l.cpu l.aseq l.list ≡ ready_list (seen l.initial.kernel) l.cpu l.aseq l.initial.list)
    × StayTrue l.initial.shortcuts l.initial.list l.shortcuts l.list

abbrev pub decreases-loop-name : goal.decreases-loop-name
decreases-loop-name l = length l.list
