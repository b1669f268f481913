use Rattle.pc_world.proofs.Mended.{run_that}
use Rattle.pc_world.proofs.Reaching.{reached_good}
use Rattle.pc_world.proofs.laws.that_thread_can_be_run.Goals as goal

pub returns : goal.returns
returns c limits w cpu t reached idle waits = run_that c.kernel_laws.ensures limits w (reached_good c.kernel_laws.ensures limits w reached) cpu t idle waits
