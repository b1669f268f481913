use Rattle.std.proofs.Common.{refl}
use Rattle.pc_script.proofs.Walking.{takes_answer}
use Rattle.pc_script.proofs.walker.Walker.answer.Goals as goal

pub returns-in-Ok-clause-ok : goal.returns-in-Ok-clause-ok
returns-in-Ok-clause-ok g c =
    takes_answer g.M.Machine.StandsAfter g.O.Observer.Tells c.args.line.text.now _ _ c.expect.new.self c.args.command.now c.answer.new.response c.answered.result g.met.O.Observer.tells_more
    c.requires.replies c.requires.asked c.in-Ok.ensures.ok refl refl (c.expect.ensures (g.W.Write.contents c.args.writer.now)) c.answered.ensures.ok
