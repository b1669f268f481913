use Rattle.pc_world.proofs.Picking.{run_some}
use Rattle.pc_world.proofs.Reaching.{reached_good}
use Rattle.pc_world.proofs.laws.a_waiting_thread_can_be_run.Goals as goal

pub returns : goal.returns
returns c limits w cpu t reached idle waits stolen =
    run_some c.kernel_laws.ensures c.upto_is_the_greatest.ensures limits w (reached_good c.kernel_laws.ensures limits w reached) cpu t idle waits stolen
