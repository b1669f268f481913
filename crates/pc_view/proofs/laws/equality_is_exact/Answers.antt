use Rattle.pc_view.specs.Inner.ViewLaws.{view_Decides}
use Rattle.pc_view.proofs.laws.equality_is_exact.Goals as goal

pub returns : goal.returns
returns c = view_Decides
