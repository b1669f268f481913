use Rattle.pc_explain.specs.Inner.Told.{Annotates-nothing}
use Rattle.pc_explain.proofs.Annotations.{Annotates-between_ok}
use Rattle.pc_explain.proofs.explain.write_passed_over.Goals as goal

pub returns-clause-ok : goal.returns-clause-ok
returns-clause-ok g c =
    Annotates-between_ok c.write_sentences.result _ (g.W.Write.contents c.args.writer.now) _ _ (Annotates-nothing (g.W.Write.contents c.args.writer.now))
    c.in_ok-write_fault_line.ensures.ok c.write_sentences.ensures.ok
