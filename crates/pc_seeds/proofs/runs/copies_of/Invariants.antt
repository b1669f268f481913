use Rattle.pc_policy.specs.Names.{AreAll}
use Rattle.pc_policy.specs.Rules.{rules_of}
use Rattle.pc_seeds.proofs.runs.copies_of.Given as goal

abbrev pub invariant-loop : goal.invariant-loop
invariant-loop l = AreAll (rules_of l.fn.policy) l.counter l.copies.items
