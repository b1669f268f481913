use Rattle.pc_protocol.proofs.Sleeping.{kept}
use Rattle.pc_protocol.proofs.sleepers_have_nothing.Goals as goal

pub returns : goal.returns
returns c rules limits p comes cpu h = (kept c.kernel_laws.ensures rules limits p comes).asleep cpu h.waiting h.empty
