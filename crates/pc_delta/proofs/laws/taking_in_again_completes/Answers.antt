use Rattle.pc_delta.proofs.Intake.{again}
use Rattle.pc_delta.proofs.laws.taking_in_again_completes.Goals as goal

pub returns : goal.returns
returns c = again
