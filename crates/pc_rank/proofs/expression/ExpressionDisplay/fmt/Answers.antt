use Rattle.std.proofs.Common.{[]}
use Rattle.pc_rank.proofs.expression.ExpressionDisplay.fmt.Goals as goal

pub returns-clause-writes : goal.returns-clause-writes
returns-clause-writes g c = c.write_expression.ensures [] c.args.self.now c.codes.ensures
