use Rattle.pc_protocol.proofs.Ended.{some_over}
use Rattle.pc_protocol.proofs.some_run_is_over.Goals as goal

pub returns : goal.returns
returns c = some_over
