use Rattle.pc_pen.proofs.Marks.{Marks-none, Marks-trans, Marks-trans_ok}
use Rattle.pc_draw.proofs.picture.write_bars.Goals as goal

pub loop-step-init : goal.loop-step-init
loop-step-init g c = Marks-none _

pub loop-step-preserved : goal.loop-step-preserved
loop-step-preserved g c = Marks-trans _ _ _ c.loop-step.invariant c.in_ok-write_to.ensures.marks

pub returns : goal.returns
returns g c = Marks-trans_ok c.write_to-2.result _ _ _ c.loop-step.invariant c.write_to-2.ensures.marks
