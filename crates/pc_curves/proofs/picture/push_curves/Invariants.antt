use Rattle.std.proofs.Common.{Some}
use Rattle.pc_pen.specs.Drawn.{Marks}
use Rattle.pc_curves.proofs.picture.push_curves.Given as goal

abbrev pub invariant-loop-column : goal.invariant-loop-column
invariant-loop-column l = Marks (Some l.fn.text.items) (Some l.text.items)
