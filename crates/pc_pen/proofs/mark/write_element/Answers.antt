use Rattle.std.proofs.Common.{append_assoc, refl}
use Rattle.pc_pen.proofs.Marks.{then_ok}
use Rattle.pc_pen.proofs.mark.write_element.Goals as goal

pub returns : goal.returns
returns g c = then_ok c.write_title.result _ _ _ _ _ _ c.in_ok-write_tag.ensures c.write_title.ensures (simp append_assoc refl)
