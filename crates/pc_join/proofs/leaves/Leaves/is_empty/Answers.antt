use Rattle.pc_join.proofs.Trees.{empty_shown}
use Rattle.pc_join.proofs.leaves.Leaves.is_empty.Goals as goal

pub returns : goal.returns
returns g c = empty_shown c.self.inside.leaves c.args.self.now c.is_empty.result c.self.view_is c.self.invariant c.is_empty.ensures
