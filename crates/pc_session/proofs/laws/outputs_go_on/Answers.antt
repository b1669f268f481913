use Rattle.pc_session.proofs.Outputs.{outputs_go_on}
use Rattle.pc_session.proofs.laws.outputs_go_on.Goals as goal

pub returns : goal.returns
returns c = outputs_go_on c.sessions_go_on.ensures
