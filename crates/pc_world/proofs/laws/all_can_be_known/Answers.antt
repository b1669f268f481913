use Rattle.pc_world.proofs.Clearing.{all_known}
use Rattle.pc_world.proofs.Reaching.{reached_good}
use Rattle.pc_world.proofs.laws.all_can_be_known.Goals as goal

pub returns : goal.returns
returns c limits w reached = all_known c.kernel_laws.ensures limits w (reached_good c.kernel_laws.ensures limits w reached)
