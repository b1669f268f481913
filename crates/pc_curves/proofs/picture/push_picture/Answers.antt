use Rattle.std.proofs.Common.{Some}
use Rattle.pc_pen.proofs.Marks.{picture_ok}
use Rattle.pc_curves.proofs.picture.push_picture.Goals as goal

pub returns : goal.returns
returns c =
    picture_ok c.push_end.result 820 c.height_of-height.result c.args.title.now
    (Some c.args.text.now.items) (Some c.push_opening.new.text.items) (Some c.push_all.new.text.items) (Some c.push_end.new.text.items)
    c.in_ok-push_opening.ensures c.in_ok-push_all.ensures c.push_end.ensures
