use Rattle.pc_rank.proofs.Weights.{rest_weighs}
use Rattle.pc_rank.proofs.next.rest_of.Goals as goal

pub returns-in-len1-up-clause-weight : goal.returns-in-len1-up-clause-weight
returns-in-len1-up-clause-weight c = rest_weighs _ c.args.tokens.now
