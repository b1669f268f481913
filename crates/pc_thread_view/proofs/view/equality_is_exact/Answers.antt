use Rattle.pc_thread_view.specs.Inner.SameLaws.{told_Decides}
use Rattle.pc_thread_view.proofs.view.equality_is_exact.Goals as goal

pub returns : goal.returns
returns c = told_Decides
