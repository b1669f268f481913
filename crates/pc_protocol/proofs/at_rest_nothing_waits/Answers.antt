use Rattle.pc_protocol.proofs.Resting.{nothing_waits}
use Rattle.pc_protocol.proofs.at_rest_nothing_waits.Goals as goal

pub returns : goal.returns
returns c rules limits p comes rest cpu t idle waiting stolen =
    nothing_waits c.kernel_laws.ensures rules limits p comes rest c.upto_is_the_greatest.ensures cpu t idle waiting stolen
