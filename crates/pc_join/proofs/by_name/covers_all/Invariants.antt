use Rattle.pc_join.specs.ByName.{value_at}
use Rattle.pc_join.proofs.Names.{IsCovering}
use Rattle.pc_join.proofs.by_name.covers_all.Given as goal

abbrev pub invariant-loop-name : goal.invariant-loop-name
invariant-loop-name g l = IsCovering g.V.Join.known (value_at l.values) (value_at l.other) l.name-iterator
