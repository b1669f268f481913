use Rattle.pc_policy.specs.Names.{AreAll, rules_named}
use Rattle.pc_policy.proofs.agent_policy.AgentPolicy.for_each.Given as goal

abbrev pub invariant-loop : goal.invariant-loop
invariant-loop l = AreAll (rules_named l.name) l.counter l.policies.items
