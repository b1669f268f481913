use Rattle.pc_pen.proofs.Marks.{Marks-trans, Marks-trans_ok}
use Rattle.pc_draw.proofs.picture.write_marks.Goals as goal

pub returns : goal.returns
returns g c =
    Marks-trans_ok c.write_moments.result _ _ _ (Marks-trans _ _ _ c.in_ok-write_to.ensures.marks c.in_ok-write_bars.ensures) c.write_moments.ensures
