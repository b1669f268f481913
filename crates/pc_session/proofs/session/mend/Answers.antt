use Rattle.pc_session.proofs.Ruling.{mends}
use Rattle.pc_session.proofs.session.mend.Goals as goal

pub returns-in-Ok-clause-ok : goal.returns-in-Ok-clause-ok
returns-in-Ok-clause-ok c = mends c.args.met.now c.mend.new.self c.args.cpu c.in-Ok.reply c.in-Ok.ensures.mended
