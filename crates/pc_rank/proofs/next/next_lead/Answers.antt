use Rattle.pc_rank.proofs.Weights.{lead_weighs}
use Rattle.pc_rank.proofs.next.next_lead.Goals as goal

pub returns-in-len1-up-clause-weight : goal.returns-in-len1-up-clause-weight
returns-in-len1-up-clause-weight c = lead_weighs _ c.args.tokens.now _ c.in-len1-up.len_at_least c.lead_of.ensures
