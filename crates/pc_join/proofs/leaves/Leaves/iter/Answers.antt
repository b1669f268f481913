use Rattle.std.proofs.Common.{subst}
use Rattle.pc_join.specs.ByName.{AscendFrom}
use Rattle.pc_join.proofs.Trees.{all_ascend}
use Rattle.pc_join.proofs.leaves.Leaves.iter.Goals as goal

pub returns-clause-ascend : goal.returns-clause-ascend
returns-clause-ascend g c = subst (AscendFrom 0) c.self.view_is (all_ascend c.self.inside.leaves c.self.invariant)
