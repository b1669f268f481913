use Rattle.pc_world.proofs.Recovering.{come_back}
use Rattle.pc_world.proofs.Reaching.{reached_good}
use Rattle.pc_world.proofs.laws.what_was_forgotten_comes_back.Goals as goal

pub returns : goal.returns
returns c limits w cpu reached idle =
    come_back c.kernel_laws.ensures c.upto_is_the_greatest.ensures limits w (reached_good c.kernel_laws.ensures limits w reached) cpu idle
