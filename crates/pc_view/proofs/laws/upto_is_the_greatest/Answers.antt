use Rattle.pc_view.proofs.Prefixes.{greatest}
use Rattle.pc_view.proofs.laws.upto_is_the_greatest.Goals as goal

pub returns : goal.returns
returns c = greatest
