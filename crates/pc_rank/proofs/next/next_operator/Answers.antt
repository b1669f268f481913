use Rattle.pc_rank.proofs.Weights.{operator_weighs}
use Rattle.pc_rank.proofs.next.next_operator.Goals as goal

pub returns-in-len1-up-clause-weight : goal.returns-in-len1-up-clause-weight
returns-in-len1-up-clause-weight c = operator_weighs _ c.args.tokens.now _ c.in-len1-up.len_at_least c.operator_of.ensures
