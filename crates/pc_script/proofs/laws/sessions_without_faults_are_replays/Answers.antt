use Rattle.pc_script.proofs.Replays.{replayed}
use Rattle.pc_script.proofs.laws.sessions_without_faults_are_replays.Goals as goal

pub returns : goal.returns
returns g c = replayed g.M.Machine.IsRun
