use Rattle.pc_delta.proofs.OfRun.{no_conflict}
use Rattle.pc_delta.proofs.laws.one_run_has_no_conflict.Goals as goal

pub returns : goal.returns
returns c = no_conflict
