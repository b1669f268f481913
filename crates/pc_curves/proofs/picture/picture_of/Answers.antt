use Rattle.std.proofs.Common.{◌∙◌}
use Rattle.pc_curves.proofs.Waits.{drawn}
use Rattle.pc_curves.proofs.picture.picture_of.Goals as goal

pub returns : goal.returns
returns c =
    drawn c.args.columns.now c.as_slice.result.now c.new-text.result.items c.push_picture.new.text.items
    (c.as_slice.ensures.value ∙ c.in_ok-title.ensures) c.new-text.ensures.items c.in_ok-push_picture.ensures
