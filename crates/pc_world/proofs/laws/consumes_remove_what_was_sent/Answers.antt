use Rattle.pc_world.proofs.Exactly.{consume_takes}
use Rattle.pc_world.proofs.Reaching.{reached_good}
use Rattle.pc_world.proofs.laws.consumes_remove_what_was_sent.Goals as goal

pub returns : goal.returns
returns c limits w new cpu told reached there step =
    consume_takes c.kernel_laws.ensures limits w (reached_good c.kernel_laws.ensures limits w reached) cpu there told new step
