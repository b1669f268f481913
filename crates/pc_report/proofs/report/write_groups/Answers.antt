use Rattle.pc_pen.proofs.Marks.{Marks-none, Marks-trans}
use Rattle.pc_report.proofs.report.write_groups.Goals as goal

pub loop-row-init : goal.loop-row-init
loop-row-init g c = Marks-none _

pub loop-row-preserved : goal.loop-row-preserved
loop-row-preserved g c = Marks-trans _ _ _ c.loop-row.invariant c.in_ok-write_to.ensures.marks
