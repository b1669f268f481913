use Rattle.pc_pen.proofs.Marks.{Marks-trans_ok}
use Rattle.pc_report.proofs.report.write_marks.Goals as goal

pub returns : goal.returns
returns g c = Marks-trans_ok c.write_groups.result _ _ _ c.in_ok-write_to.ensures.marks c.write_groups.ensures
