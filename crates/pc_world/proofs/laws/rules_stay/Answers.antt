use Rattle.pc_world.proofs.Reaching.{reached_ranked}
use Rattle.pc_world.proofs.laws.rules_stay.Goals as goal

pub returns : goal.returns
returns c limits w cpu reached = reached_ranked c.kernel_laws.ensures limits w cpu reached
