use Rattle.pc_protocol.specs.Protocol.{cpus_of}
use Rattle.pc_protocol.proofs.Going.{goes, no_step}
use Rattle.pc_protocol.proofs.Reaching.{reaches}
use Rattle.pc_protocol.proofs.Settling.{above_test}
use Rattle.pc_protocol.proofs.agents_go_on.Goals as goal

pub returns-clause-on : goal.returns-clause-on
returns-clause-on c rules limits p comes cpu low =
    goes c.every_event_has_a_step.ensures limits p cpu (reaches c.kernel_laws.ensures rules limits p comes) (above_test cpu (cpus_of p) low)

pub returns-clause-waits : goal.returns-clause-waits
returns-clause-waits c p new cpu waiting of = no_step p new cpu waiting of.step
