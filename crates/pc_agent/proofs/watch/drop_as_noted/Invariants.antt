use Rattle.std.proofs.Common.{length}
use Rattle.pc_policy.specs.Rankings.{ranks_of}
use Rattle.pc_agent.specs.Inner.Settled.{AreNotedAlike}
use Rattle.pc_agent.proofs.watch.drop_as_noted.Given as goal

abbrev pub invariant-loop-place : goal.invariant-loop-place
invariant-loop-place l = AreNotedAlike (ranks_of l.policy) l.view l.cpu l.initial.noted.items l.noted.items

abbrev pub decreases-loop-place : goal.decreases-loop-place
decreases-loop-place l = length l.noted.items
