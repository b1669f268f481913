use Rattle.pc_explain.proofs.Annotations.{Annotates-plain}
use Rattle.pc_explain.proofs.Plain.{fault_annotated}
use Rattle.pc_explain.proofs.explain.write_fault_line.Goals as goal

pub returns-in-Ok-clause-ok : goal.returns-in-Ok-clause-ok
returns-in-Ok-clause-ok g c = Annotates-plain _ _ _ (fault_annotated c.args.number) c.in-Ok.ensures.bytes
