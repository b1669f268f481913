use Rattle.pc_join.specs.ByName.{value_at}
use Rattle.pc_join.proofs.Names.{IsJoining}
use Rattle.pc_join.proofs.by_name.join_all.Given as goal

abbrev pub invariant-loop-name : goal.invariant-loop-name
invariant-loop-name g l = IsJoining g.V.Join.known g.V.Join.is_of (value_at l.fn.values) (value_at l.other) (value_at l.values) l.name-iterator
