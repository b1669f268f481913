use Rattle.pc_join.proofs.Names.{copy_same, copy_kept}
use Rattle.pc_join.proofs.by_name.ByNameJoin.try_copy.Goals as goal

pub invariant_of-result : goal.invariant_of-result
invariant_of-result g c = copy_kept g.V.Join.known c.self.inside.values c.in_ok-values.values c.self.invariant c.in_ok-values.ensures

pub returns : goal.returns
returns g c = copy_same c.self.inside.values c.in_ok-values.values c.args.self.now c.self.view_is c.in_ok-values.ensures
