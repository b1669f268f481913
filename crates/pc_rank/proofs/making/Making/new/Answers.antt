use Rattle.std.proofs.Common.{[], ap}
use Rattle.pc_rank.specs.Inner.Made.{stack}
use Rattle.pc_rank.specs.Layout.{builds}
use Rattle.pc_rank.proofs.making.Making.new.Goals as goal

pub returns-clause-stack : goal.returns-clause-stack
unfolding stack
returns-clause-stack c = ap (λ codes. builds codes []) c.new.ensures
