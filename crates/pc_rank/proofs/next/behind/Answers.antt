use Rattle.pc_rank.proofs.Weights.{rest_weighs}
use Rattle.pc_rank.proofs.next.behind.Goals as goal

pub returns-then-is_wanted-clause-weight : goal.returns-then-is_wanted-clause-weight
returns-then-is_wanted-clause-weight c = rest_weighs _ c.args.tokens.now
