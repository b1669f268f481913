use Rattle.pc_join.specs.ByName.{value_at}
use Rattle.pc_join.proofs.Names.{IsCopying}
use Rattle.pc_join.proofs.by_name.collected.Given as goal

abbrev pub invariant-loop-name : goal.invariant-loop-name
invariant-loop-name g l = IsCopying (value_at l.fn.entries.items) (value_at l.values) l.name-iterator.rest.items
