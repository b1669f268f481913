use Rattle.pc_join.proofs.Puts.{new_kept}
use Rattle.pc_join.proofs.by_name.ByName.new.Goals as goal

pub invariant_of-result : goal.invariant_of-result
invariant_of-result g c = new_kept g.V.Join.known c.new.result c.new.ensures
