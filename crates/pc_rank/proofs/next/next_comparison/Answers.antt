use Rattle.pc_rank.proofs.Weights.{comparison_weighs}
use Rattle.pc_rank.proofs.next.next_comparison.Goals as goal

pub returns-in-len1-up-clause-weight : goal.returns-in-len1-up-clause-weight
returns-in-len1-up-clause-weight c = comparison_weighs _ c.args.tokens.now _ c.in-len1-up.len_at_least c.comparison_of.ensures
