use Rattle.pc_world.proofs.Reaching.{reached_good}
use Rattle.pc_world.proofs.Stepping.{has_step}
use Rattle.pc_world.proofs.laws.every_event_has_a_step.Goals as goal

pub returns : goal.returns
returns c limits w event reached = has_step c.kernel_laws.ensures limits w (reached_good c.kernel_laws.ensures limits w reached) event
