use Rattle.pc_join.proofs.Puts.{new_kept}
use Rattle.pc_join.proofs.by_name.ByName.clear.Goals as goal

pub invariant_of-self : goal.invariant_of-self
invariant_of-self g c = new_kept g.V.Join.known c.clear.new.self c.clear.ensures
