use Rattle.pc_script.specs.Grammar.{HasNoReply}
use Rattle.pc_script.specs.Inner.Walks.{silent}
use Rattle.pc_script.proofs.walker.Walker.take.Goals as goal

pub returns-in-Nothing-clause-ok : goal.returns-in-Nothing-clause-ok
returns-in-Nothing-clause-ok g c =
    let quiet : HasNoReply c.args.line.text.now = rw c.in-Nothing.is at c.read_line.ensures in
    silent quiet
