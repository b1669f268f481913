use Rattle.pc_delta.proofs.OfRun.{parts_stay}
use Rattle.pc_delta.proofs.laws.parts_stay_as_the_run_goes_on.Goals as goal

pub returns : goal.returns
returns c = λ longer shorter parts extends of_run. parts_stay longer shorter extends parts of_run
