use Rattle.pc_script.proofs.Taking.{over_or_not}
use Rattle.pc_script.proofs.words.Words.is_over.Goals as goal

pub returns : goal.returns
returns c = rw c.is_empty.ensures (over_or_not c.args.self.now.rest.now c.after_spaces.result.now c.after_spaces.ensures.same c.after_spaces.ensures.starts)
