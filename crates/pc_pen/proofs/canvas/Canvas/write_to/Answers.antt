use Rattle.pc_pen.proofs.Marks.{Marks-from, MarksOf-none, MarksOf-next, MarksOf-all}
use Rattle.pc_pen.proofs.canvas.Canvas.write_to.Goals as goal

pub loop-place-init : goal.loop-place-init
loop-place-init g c = MarksOf-none _

pub loop-place-preserved : goal.loop-place-preserved
loop-place-preserved g c =
    MarksOf-next (λ place. place.shape) _ c.loop-place.place-index _ c.loop-place-test.true _ _ _ c.loop-place.invariant c.in_ok-write_mark.ensures

pub returns-clause-marks : goal.returns-clause-marks
returns-clause-marks g c = Marks-from _ _ _ c.loop-place.invariant

pub returns-clause-kinds : goal.returns-clause-kinds
returns-clause-kinds g c = rw (← c.self.view_is) (MarksOf-all (λ place. place.shape) _ c.loop-place.place-index c.loop-place-test.false _ _ c.loop-place.invariant)
