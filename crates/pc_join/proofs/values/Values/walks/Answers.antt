use Rattle.pc_join.proofs.Both.{now_ascend}
use Rattle.pc_join.proofs.values.Values.walks.Goals as goal

pub returns-clause-ascend : goal.returns-clause-ascend
returns-clause-ascend g c = now_ascend c.self.inside.near c.self.inside.far c.args.self.now c.self.view_is c.self.invariant
