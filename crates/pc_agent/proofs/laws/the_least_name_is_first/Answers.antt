use Rattle.pc_agent.proofs.Firsts.{by_first, by_least}
use Rattle.pc_agent.proofs.laws.the_least_name_is_first.Goals as goal

pub returns : goal.returns
returns c rules r known cpu list found usual = (by_first rules r known cpu list usual found, by_least rules r known cpu list usual found)
