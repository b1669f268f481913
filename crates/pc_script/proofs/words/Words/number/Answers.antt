use Rattle.pc_script.proofs.Taking.{takes_number}
use Rattle.pc_script.proofs.words.Words.number.Goals as goal

pub returns : goal.returns
returns c = takes_number c.args.self.now.rest.now _ _ c.take_number.result c.after_spaces-self.ensures.same c.after_spaces-self.ensures.starts c.take_number.ensures
