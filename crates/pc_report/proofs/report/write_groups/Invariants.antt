use Rattle.pc_pen.specs.Drawn.{Marks}
use Rattle.pc_report.proofs.report.write_groups.Given as goal

abbrev pub invariant-loop-row : goal.invariant-loop-row
invariant-loop-row g l = Marks (g.W.Write.contents l.initial.writer) (g.W.Write.contents l.writer)
