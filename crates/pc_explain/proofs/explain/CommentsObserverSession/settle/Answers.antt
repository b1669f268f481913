use Rattle.pc_explain.specs.Inner.Told.{told_nothing}
use Rattle.pc_explain.proofs.explain.CommentsObserverSession.settle.Goals as goal

pub returns-clause-ok : goal.returns-clause-ok
returns-clause-ok g c = told_nothing (g.W.Write.contents c.args.writer.now)
