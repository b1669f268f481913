use Rattle.pc_world.proofs.Exactly.{exact_steal}
use Rattle.pc_world.proofs.Reaching.{reached_good}
use Rattle.pc_world.proofs.laws.steals_are_exact.Goals as goal

pub returns : goal.returns
returns c limits w new cpu t reached step = exact_steal c.kernel_laws.ensures limits w (reached_good c.kernel_laws.ensures limits w reached) new cpu t step
