use Rattle.pc_explain.specs.Inner.Told.{Annotates-nothing, Annotates-trans}
use Rattle.pc_explain.proofs.comment.write_sentences.Goals as goal

pub loop-sentence-init : goal.loop-sentence-init
loop-sentence-init g c = Annotates-nothing _

pub loop-sentence-preserved : goal.loop-sentence-preserved
loop-sentence-preserved g c = Annotates-trans _ _ _ c.loop-sentence.invariant c.in_ok-write_sentence.ensures.ok
