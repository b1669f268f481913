use Rattle.std.proofs.Common.{[]}
use Rattle.pc_explain.specs.Inner.Writing.{Annotates}
use Rattle.pc_explain.proofs.comment.write_sentences.Given as goal

abbrev pub invariant-loop-sentence : goal.invariant-loop-sentence
invariant-loop-sentence g l = Annotates [] (g.W.Write.contents l.initial.writer) (g.W.Write.contents l.writer)
