use Rattle.pc_pen.specs.Drawn.{Marks}
use Rattle.pc_draw.proofs.picture.write_moments.Given as goal

abbrev pub invariant-loop-text : goal.invariant-loop-text
invariant-loop-text g l = Marks (g.W.Write.contents l.initial.writer) (g.W.Write.contents l.writer)
