use Rattle.pc_session.proofs.Standing.{stands_at_start}
use Rattle.pc_session.proofs.session.SessionMachine.start.Goals as goal

pub returns : goal.returns
returns c = stands_at_start c.args.profile
