use Rattle.pc_pen.proofs.Marks.{Marks-none, Marks-trans, Marks-trans_ok}
use Rattle.pc_draw.proofs.picture.write_moments.Goals as goal

pub loop-text-init : goal.loop-text-init
loop-text-init g c = Marks-none _

pub loop-text-preserved-then-step-number : goal.loop-text-preserved-then-step-number
loop-text-preserved-then-step-number g c = Marks-trans _ _ _ c.loop-text.invariant c.in_ok-write_to.ensures.marks

pub returns : goal.returns
returns g c =
    Marks-trans_ok c.write_to-2.result _ _ _ (Marks-trans _ _ _ c.loop-text.invariant c.in_ok-write_crashes.ensures) c.write_to-2.ensures.marks
