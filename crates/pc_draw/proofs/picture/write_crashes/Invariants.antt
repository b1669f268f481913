use Rattle.pc_pen.specs.Drawn.{Marks}
use Rattle.pc_draw.proofs.picture.write_crashes.Given as goal

abbrev pub invariant-loop-step : goal.invariant-loop-step
invariant-loop-step g l = Marks (g.W.Write.contents l.initial.writer) (g.W.Write.contents l.writer)
