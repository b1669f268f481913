use Rattle.std.proofs.Common.{map, take}
use Rattle.pc_pen.specs.Drawn.{MarksOf}
use Rattle.pc_pen.proofs.canvas.Canvas.write_to.Given as goal

abbrev pub invariant-loop-place : goal.invariant-loop-place
invariant-loop-place g l =
    MarksOf (map (λ place. place.shape) (take l.place-index l.place-items)) (g.W.Write.contents l.initial.writer) (g.W.Write.contents l.writer)
