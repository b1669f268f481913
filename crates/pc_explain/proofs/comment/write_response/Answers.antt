use Rattle.pc_explain.proofs.Annotations.{Annotates-plain}
use Rattle.pc_explain.proofs.Plain.{response_annotated}
use Rattle.pc_explain.proofs.comment.write_response.Goals as goal

pub returns-in-Ok-clause-ok : goal.returns-in-Ok-clause-ok
returns-in-Ok-clause-ok g c = Annotates-plain _ _ _ (response_annotated c.args.response.now) c.in-Ok.ensures
