use Rattle.std.proofs.Common.{[]}
use Rattle.pc_rank.proofs.expression.Expression.rank.Goals as goal

pub returns : goal.returns
returns c = (c.rank_of.ensures.rank [] c.args.self.now c.codes.ensures).0
