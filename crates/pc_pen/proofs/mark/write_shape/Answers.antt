use Rattle.pc_pen.proofs.Marks.{Marks-shape_ok}
use Rattle.pc_pen.proofs.mark.write_shape.Goals as goal

pub returns : goal.returns
returns g c =
    let written = rw c.name.ensures at c.write_element.ensures in
    Marks-shape_ok c.write_element.result c.args.shape _ _ _ _ c.plain.ensures c.plain-2.ensures written
