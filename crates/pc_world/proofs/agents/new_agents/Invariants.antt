use Rattle.pc_world.specs.PlainWorld.{rules_at}
use Rattle.pc_world.specs.Inner.Agents.{AreNew}
use Rattle.pc_world.proofs.agents.new_agents.Given as goal

abbrev pub invariant-loop-cpu : goal.invariant-loop-cpu
invariant-loop-cpu l = AreNew (rules_at l.policies) l.cpu l.agents.items
