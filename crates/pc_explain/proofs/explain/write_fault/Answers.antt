use Rattle.pc_explain.proofs.Annotations.{Annotates-between_ok}
use Rattle.pc_explain.proofs.explain.write_fault.Goals as goal

pub returns-clause-ok : goal.returns-clause-ok
returns-clause-ok g c =
    Annotates-between_ok c.write_sentences.result _ _ _ _ c.in_ok-write_heading.ensures.ok c.in_ok-write_fault_line.ensures.ok c.write_sentences.ensures.ok
