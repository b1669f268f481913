use Rattle.std.proofs.Common.{Some}
use Rattle.pc_pen.proofs.Marks.{Marks-none, Marks-trans}
use Rattle.pc_curves.proofs.picture.push_curves.Goals as goal

pub loop-column-init : goal.loop-column-init
loop-column-init c = Marks-none (Some c.args.text.now.items)

pub loop-column-preserved : goal.loop-column-preserved
loop-column-preserved c =
    Marks-trans (Some c.args.text.now.items) (Some c.loop-column.text.items) (Some c.push_marks.new.text.items) c.loop-column.invariant c.in_ok-push_marks.ensures
