use Rattle.pc_explain.specs.Inner.Told.{told_nothing}
use Rattle.pc_explain.proofs.explain.CommentsObserverSession.expect.Goals as goal

pub returns : goal.returns
returns g c = λ known. told_nothing known
