use Rattle.std.proofs.Common.{Some}
use Rattle.pc_pen.proofs.Marks.{Marks-trans, Marks-trans_ok}
use Rattle.pc_curves.proofs.picture.push_all.Goals as goal

pub returns : goal.returns
returns c =
    let front = Marks-trans (Some c.args.text.now.items) (Some c.push_marks.new.text.items) (Some c.push_curves.new.text.items) c.in_ok-push_marks.ensures c.in_ok-push_curves.ensures in
    Marks-trans_ok c.push_marks-2.result (Some c.args.text.now.items) (Some c.push_curves.new.text.items) (Some c.push_marks-2.new.text.items) front c.push_marks-2.ensures
