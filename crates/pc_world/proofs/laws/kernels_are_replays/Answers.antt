use Rattle.pc_world.proofs.Reaching.{reached_good}
use Rattle.pc_world.proofs.laws.kernels_are_replays.Goals as goal

pub returns : goal.returns
returns c limits w reached = let h = reached_good c.kernel_laws.ensures limits w reached in (h.calls, h.replayed)
