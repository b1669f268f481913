use Rattle.pc_pen.proofs.Marks.{picture_ok}
use Rattle.pc_draw.proofs.picture.write_picture.Goals as goal

pub returns : goal.returns
returns g c = picture_ok c.write_end.result _ _ _ _ _ _ _ c.in_ok-write_opening_bytes.ensures c.in_ok-write_marks.ensures c.write_end.ensures
