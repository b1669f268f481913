use Rattle.pc_explain.specs.Inner.Told.{Annotates-nothing}
use Rattle.pc_explain.proofs.Annotations.{Annotates-sentence}
use Rattle.pc_explain.proofs.comment.write_sentence.Goals as goal

pub returns-then-is_empty-clause-ok : goal.returns-then-is_empty-clause-ok
returns-then-is_empty-clause-ok g c = Annotates-nothing _

pub returns-in-Ok-clause-ok : goal.returns-in-Ok-clause-ok
returns-in-Ok-clause-ok g c = Annotates-sentence _ _ _ c.printed.ensures c.in-Ok.ensures
