use Rattle.pc_explain.proofs.Annotations.{Annotates-heading}
use Rattle.pc_explain.proofs.comment.write_heading.Goals as goal

pub returns-in-Ok-clause-ok : goal.returns-in-Ok-clause-ok
returns-in-Ok-clause-ok g c = Annotates-heading c.args.number c.args.line.now _ _ c.in-Ok.ensures.bytes
